-- This file shows that the one cycle between the face and a class, turned the right way, has the class on its right.
use Rattle.std.proofs.Common.{◌≡◌, ◌≢◌, ◌⊎◌, ℕ, zero, suc, ◌<◌, ◌==◌, Bool, true, false, not, ◌&&◌, ◌||◌, List, [], ◌∷◌, ◌++◌}
use Rattle.std.proofs.Common.{reverse, length, get_or, Contains, AllPairs, IsTrue, if◌then◌else◌, refl, sym, ap, ap₂, subst, ◌∙◌}
use Rattle.std.proofs.Common.{◌↔◌, nat_lt, Result, Ok, Err, IfOk, arith, inl, inr}
use Rattle.std.proofs.lemmas.Bool.Decides.{nat_tests}
use Rattle.grid_base.specs.Point.{GridPoint, IsBefore, is_before}
use Rattle.grid_base.specs.Segment.{GridSegment, IsSegmentBefore, segment_of}
use Rattle.grid_base.specs.Sides.{Side, Left, On, Right}
use Rattle.grid_base.specs.Plane.{Place}
use Rattle.grid_base.proofs.Elements.{Contains-here, Contains-later}
use Rattle.grid_base.proofs.Booleans.{both_true, one_true, either_true, same_number}
use Rattle.grid_base.proofs.Signs.{left_off, right_off}
use Rattle.plane_classes.specs.Classes.{FromLeft, FromRight}
use Rattle.plane_cells.specs.Numbered.{numbered}
use Rattle.plane_cells.specs.Sheared.{AreOfRealm}
use Rattle.plane_cells.specs.ClassNumbers.{number_at, LiesBeside, AreClassNumbers}
use Rattle.plane_cells.specs.declared.classes.SideClasses.{SideClasses}
use Rattle.plane_cells.proofs.OfRealm.{once_in}
use Rattle.r_cycles.specs.Cycles.{Link, link, links, round, joins, IsCycle, CutsIntoCycles}
use Rattle.r_cycles.proofs.Counts.{count_by-found}
use Rattle.class_borders.specs.ClassLinks.{is_left_alone, is_right_alone, class_links, class_rim}
use Rattle.class_borders.specs.ClassBorders.{LiesBetween, back, GoesAlong}
use Rattle.class_borders.proofs.LinkCounts.{numbers_at}
use Rattle.class_borders.proofs.EvenRims.{is_alone, IsAlong, rim_number, link_along, left_link, right_link}
use Rattle.class_borders.proofs.OneCycles.{along, along_border, first_used, by_joins, along_ends}
use Rattle.class_borders.proofs.Aligned.{GoesWith, With, Against}
use Rattle.class_borders.proofs.OneWays.{one_way, with_class}
use Rattle.r_faces.specs.Rounds.{IsFaceNumber, IsRound}
use Rattle.r_faces.specs.Turned.{IsTurned, BeginsLeast}
use Rattle.r_faces.proofs.TurnedLinks.{cycle_turned, cycle_reversed, HaveLinks, link_was, link_is}

-- ---- each segment of a class's rim lies between the class and the face
-- the class is on one side, and the face on the other
pub data HasSides (N : List SideClasses) (face n i : ℕ) : Type 0 where
  OnLeft : number_at N i Left ≡ n → number_at N i Right ≡ face → HasSides N face n i
  OnRight : number_at N i Right ≡ n → number_at N i Left ≡ face → HasSides N face n i

pub has_sides : (R : List GridSegment) (N : List SideClasses) (face n i : ℕ) → IsFaceNumber R N face → n ≢ face → i < length R
    → is_alone n (numbers_at N i) ≡ true → HasSides N face n i
has_sides R N face n i two other hi alone =
    by (one_true (is_left_alone n (numbers_at N i)) (is_right_alone n (numbers_at N i)) alone) (two i hi)
  where
    by : (is_left_alone n (numbers_at N i) ≡ true) ⊎ (is_right_alone n (numbers_at N i) ≡ true)
        → ((number_at N i Left ≡ face) × (number_at N i Right ≢ face)) ⊎ ((number_at N i Right ≡ face) × (number_at N i Left ≢ face))
        → HasSides N face n i
    by (inl a) (inl f) = absurd (other (sym (same_number _ n (both_true _ _ a).0) ∙ f.0))
    by (inl a) (inr f) = OnLeft (same_number _ n (both_true _ _ a).0) f.0
    by (inr a) (inl f) = OnRight (same_number _ n (both_true _ _ a).0) f.0
    by (inr a) (inr f) = absurd (other (sym (same_number _ n (both_true _ _ a).0) ∙ f.0))

-- the places of the two classes
pub between : (R : List GridSegment) (N : List SideClasses) (face n : ℕ) (s : GridSegment) → AreClassNumbers R N → IsFaceNumber R N face
    → n ≢ face → Contains (class_rim n R N) s
    → (p : Place) × (q : Place) × ((t : GridSegment) → Contains (class_rim n R N) t → LiesBetween R p q t)
between R N face n s c two other there = first (has_sides R N face n r.0 two other r.1 r.3)
  where
    r : (i : ℕ) × (i < length R) × (numbered R i ≡ s) × (is_alone n (numbers_at N i) ≡ true)
    r = rim_number n R N s there

    -- with a side of the class and one of the face given
    by : (d e : Side) → (d ≡ On → ⊥) → (e ≡ On → ⊥) → number_at N r.0 d ≡ n → number_at N r.0 e ≡ face
        → (p : Place) × (q : Place) × ((t : GridSegment) → Contains (class_rim n R N) t → LiesBetween R p q t)
    by d e off_d off_e of_n of_face =
        let p = c.some r.0 e r.1 off_e in
        let q = c.some r.0 d r.1 off_d in
        (p.0, q.0, λ t t_there. lies t (rim_number n R N t t_there))
      where
        p : (u : Place) × LiesBeside R r.0 e u
        p = c.some r.0 e r.1 off_e

        q : (u : Place) × LiesBeside R r.0 d u
        q = c.some r.0 d r.1 off_d

        lies : (t : GridSegment) → (i : ℕ) × (i < length R) × (numbered R i ≡ t) × (is_alone n (numbers_at N i) ≡ true)
            → LiesBetween R p.0 q.0 t
        lies t (i, hi, is, alone) = subst (LiesBetween R p.0 q.0) is (sides (has_sides R N face n i two other hi alone))
          where
            left : (u : Place) × LiesBeside R i Left u
            left = c.some i Left hi left_off

            right : (u : Place) × LiesBeside R i Right u
            right = c.some i Right hi right_off

            sides : HasSides N face n i → LiesBetween R p.0 q.0 (numbered R i)
            sides (OnLeft a b) = (
              right.0,
              left.0,
              FromRight right.1.beside left.1.beside,
              (c.one_class r.0 i e Right p.0 right.0 p.1 right.1).0 (of_face ∙ sym b),
              (c.one_class r.0 i d Left q.0 left.0 q.1 left.1).0 (of_n ∙ sym a),
            )
            sides (OnRight a b) = (
              left.0,
              right.0,
              FromLeft left.1.beside right.1.beside,
              (c.one_class r.0 i e Left p.0 left.0 p.1 left.1).0 (of_face ∙ sym b),
              (c.one_class r.0 i d Right q.0 right.0 q.1 right.1).0 (of_n ∙ sym a),
            )

    first : HasSides N face n r.0
        → (p : Place) × (q : Place) × ((t : GridSegment) → Contains (class_rim n R N) t → LiesBetween R p q t)
    first (OnLeft a b) = by Left Right left_off right_off a b
    first (OnRight a b) = by Right Left right_off left_off a b

-- ---- the one cycle goes along the links of the class
link_of : (s : GridSegment) (l : Link) → ((l.from ≡ s.a) × (l.to ≡ s.b)) ⊎ ((l.from ≡ s.b) × (l.to ≡ s.a))
    → (l ≡ link s.a s.b) ⊎ (l ≡ link s.b s.a)
link_of s l (inl e) = inl (ap₂ link e.0 e.1)
link_of s l (inr e) = inr (ap₂ link e.0 e.1)

rim_has : (n : ℕ) (B : List GridSegment) (N : List SideClasses) (i : ℕ) → length N ≡ length B → i < length B
    → is_alone n (numbers_at N i) ≡ true → Contains (class_rim n B N) (numbered B i)
rim_has n [] N i e h a = absurd (omega (arith, h))
rim_has n (t ∷ B) [] i e h a = absurd (omega (arith, e))
rim_has n (t ∷ B) (k ∷ N) zero e h a = here (is_left_alone n k) (is_right_alone n k) a
  where
    here : (l r : Bool) → (l || r) ≡ true
        → Contains (if l then t ∷ class_rim n B N else if r then t ∷ class_rim n B N else class_rim n B N) t
    here true r f = Contains-here t (class_rim n B N)
    here false true f = Contains-here t (class_rim n B N)
    here false false f = cc
rim_has n (t ∷ B) (k ∷ N) (suc i) e h a =
    later (is_left_alone n k) (is_right_alone n k) (rim_has n B N i (omega (arith, e)) (omega (arith, h)) a)
  where
    later : (l r : Bool) → Contains (class_rim n B N) (numbered B i)
        → Contains (if l then t ∷ class_rim n B N else if r then t ∷ class_rim n B N else class_rim n B N) (numbered B i)
    later true r m = Contains-later t (class_rim n B N) (numbered B i) m
    later false true m = Contains-later t (class_rim n B N) (numbered B i) m
    later false false m = m

-- a link along a segment of the rim is one of the class, or goes against one
pub class_link_of : (R : List GridSegment) (N : List SideClasses) (n : ℕ) (l : Link) → length N ≡ length R
    → Contains (class_rim n R N) (along l) → Contains (class_links n R N) l ⊎ Contains (class_links n R N) (back l)
class_link_of R N n l even there = by (rim_number n R N (along l) there)
  where
    by : (i : ℕ) × (i < length R) × (numbered R i ≡ along l) × (is_alone n (numbers_at N i) ≡ true)
        → Contains (class_links n R N) l ⊎ Contains (class_links n R N) (back l)
    by (i, hi, is, alone) =
        ways (link_of (along l) l (along_ends l)) (one_true (is_left_alone n (numbers_at N i)) (is_right_alone n (numbers_at N i)) alone)
      where
        left : is_left_alone n (numbers_at N i) ≡ true → Contains (class_links n R N) (link (along l).a (along l).b)
        left e = subst (λ (s : GridSegment). Contains (class_links n R N) (link s.a s.b)) is (left_link n R N i even hi e)

        right : is_right_alone n (numbers_at N i) ≡ true → Contains (class_links n R N) (link (along l).b (along l).a)
        right e = subst (λ (s : GridSegment). Contains (class_links n R N) (link s.b s.a)) is (right_link n R N i even hi e)

        ways : (l ≡ link (along l).a (along l).b) ⊎ (l ≡ link (along l).b (along l).a)
            → (is_left_alone n (numbers_at N i) ≡ true) ⊎ (is_right_alone n (numbers_at N i) ≡ true)
            → Contains (class_links n R N) l ⊎ Contains (class_links n R N) (back l)
        ways (inl e) (inl a) = inl (subst (Contains (class_links n R N)) (sym e) (left a))
        ways (inl e) (inr a) = inr (subst (Contains (class_links n R N)) (sym (ap back e)) (right a))
        ways (inr e) (inl a) = inr (subst (Contains (class_links n R N)) (sym (ap back e)) (left a))
        ways (inr e) (inr a) = inl (subst (Contains (class_links n R N)) (sym e) (right a))

pub goes_along_class : (R : List GridSegment) (N : List SideClasses) (n : ℕ) (c : List GridPoint) → length N ≡ length R
    → CutsIntoCycles (class_rim n R N) (c ∷ []) → GoesAlong (class_links n R N) c
goes_along_class R N n c even cut = record { each = λ l there. each l (link_along n R N l there); only = λ l there. only l there }
  where
    joined : (s : GridSegment) → Contains (class_rim n R N) s
        → (l : Link) × Contains (links (round c)) l × ((l ≡ link s.a s.b) ⊎ (l ≡ link s.b s.a))
    joined s there =
        let once = cut.each_once s there in
        let found = count_by-found (joins s.a s.b) (links (round c)) (omega (arith, once, first_used s.a s.b c [])) in
        (found.0, found.1, link_of s found.0 (by_joins s.a s.b found.0 found.2))

    in_rim : (i : ℕ) → i < length R → is_alone n (numbers_at N i) ≡ true → Contains (class_rim n R N) (numbered R i)
    in_rim i hi e = rim_has n R N i even hi e

    each : (l : Link) → IsAlong n R N l
        → Contains (links (round c)) l ⊎ Contains (links (round c)) (back l)
    each l h = by h.leads
      where
        s : GridSegment
        s = numbered R h.place

        by : ((is_left_alone n (numbers_at N h.place) ≡ true) × (l ≡ link s.a s.b))
            ⊎ ((is_right_alone n (numbers_at N h.place) ≡ true) × (l ≡ link s.b s.a))
            → Contains (links (round c)) l ⊎ Contains (links (round c)) (back l)
        by (inl a) = found (joined s (in_rim h.place h.within (either_true _ _ (inl a.0)))) a.1
          where
            found : (k : Link) × Contains (links (round c)) k × ((k ≡ link s.a s.b) ⊎ (k ≡ link s.b s.a)) → l ≡ link s.a s.b
                → Contains (links (round c)) l ⊎ Contains (links (round c)) (back l)
            found (k, m, inl e) f = inl (subst (Contains (links (round c))) (e ∙ sym f) m)
            found (k, m, inr e) f = inr (subst (Contains (links (round c))) (e ∙ sym (ap back f)) m)
        by (inr a) = found (joined s (in_rim h.place h.within (either_true _ _ (inr a.0)))) a.1
          where
            found : (k : Link) × Contains (links (round c)) k × ((k ≡ link s.a s.b) ⊎ (k ≡ link s.b s.a)) → l ≡ link s.b s.a
                → Contains (links (round c)) l ⊎ Contains (links (round c)) (back l)
            found (k, m, inl e) f = inr (subst (Contains (links (round c))) (e ∙ sym (ap back f)) m)
            found (k, m, inr e) f = inl (subst (Contains (links (round c))) (e ∙ sym f) m)

    only : (l : Link) → Contains (links (round c)) l → Contains (class_links n R N) l ⊎ Contains (class_links n R N) (back l)
    only l there = class_link_of R N n l even (along_border (class_rim n R N) c [] l cut there)

-- ---- the way of the first link
is_true : (b : Bool) → IsTrue b → b ≡ true
is_true true h = refl
is_true false h = cc

is_false : (b : Bool) → (IsTrue b → ⊥) → b ≡ false
is_false true h = absurd (h refl)
is_false false h = refl

right_alone : (l r : Bool) → ((l && not r) || (r && not l)) ≡ true → r ≡ true → (r && not l) ≡ true
right_alone true true h e = cc
right_alone true false h e = cc
right_alone false r h e = ap (λ (b : Bool). b && true) e

left_alone : (l r : Bool) → ((l && not r) || (r && not l)) ≡ true → r ≡ false → (l && not r) ≡ true
left_alone true true h e = cc
left_alone true false h e = refl
left_alone false true h e = cc
left_alone false false h e = cc

left_alone' : (l r : Bool) → ((l && not r) || (r && not l)) ≡ true → l ≡ true → (l && not r) ≡ true
left_alone' true true h e = cc
left_alone' true false h e = refl
left_alone' false r h e = cc

right_alone' : (l r : Bool) → ((l && not r) || (r && not l)) ≡ true → l ≡ false → (r && not l) ≡ true
right_alone' true r h e = cc
right_alone' false true h e = refl
right_alone' false false h e = cc

pub alone_at : (R : List GridSegment) (N : List SideClasses) (n at : ℕ) (s : GridSegment) → AllPairs IsSegmentBefore R → at < length R
    → numbered R at ≡ s → Contains (class_rim n R N) s → is_alone n (numbers_at N at) ≡ true
alone_at R N n at s ascending within is there =
    let r = rim_number n R N s there in
    let same = once_in R ascending r.0 at r.1 within (r.2 ∙ sym is) in
    subst (λ (i : ℕ). is_alone n (numbers_at N i) ≡ true) same r.3

-- what the test of the side tells
pub record IsHere (R : List GridSegment) (N : List SideClasses) (n at : ℕ) (v w : GridPoint) : Type 0 where
  pub even : length N ≡ length R
  pub within : at < length R
  pub is : numbered R at ≡ segment_of v w
  pub alone : is_alone n (numbers_at N at) ≡ true

pub on_right : (R : List GridSegment) (N : List SideClasses) (n at : ℕ) (v w : GridPoint) (b r : Bool) → IsHere R N n at v w
    → is_before v w ≡ b → r ≡ (if b then (number_at N at Right == n) else (number_at N at Left == n)) → IsTrue r
    → Contains (class_links n R N) (link w v)
on_right R N n at v w true r h e f holds =
    let s = h.is ∙ ap (λ (c : Bool). if c then (record { a = v; b = w }) else (record { a = w; b = v })) e in
    subst (λ (t : GridSegment). Contains (class_links n R N) (link t.b t.a)) s
    (right_link n R N at h.even h.within
    (right_alone (number_at N at Left == n) (number_at N at Right == n) h.alone (sym f ∙ is_true r holds)))
on_right R N n at v w false r h e f holds =
    let s = h.is ∙ ap (λ (c : Bool). if c then (record { a = v; b = w }) else (record { a = w; b = v })) e in
    subst (λ (t : GridSegment). Contains (class_links n R N) (link t.a t.b)) s
    (left_link n R N at h.even h.within
    (left_alone' (number_at N at Left == n) (number_at N at Right == n) h.alone (sym f ∙ is_true r holds)))

pub on_left : (R : List GridSegment) (N : List SideClasses) (n at : ℕ) (v w : GridPoint) (b r : Bool) → IsHere R N n at v w
    → is_before v w ≡ b → r ≡ (if b then (number_at N at Right == n) else (number_at N at Left == n)) → (IsTrue r → ⊥)
    → Contains (class_links n R N) (link v w)
on_left R N n at v w true r h e f none =
    let s = h.is ∙ ap (λ (c : Bool). if c then (record { a = v; b = w }) else (record { a = w; b = v })) e in
    subst (λ (t : GridSegment). Contains (class_links n R N) (link t.a t.b)) s
    (left_link n R N at h.even h.within
    (left_alone (number_at N at Left == n) (number_at N at Right == n) h.alone (sym f ∙ is_false r none)))
on_left R N n at v w false r h e f none =
    let s = h.is ∙ ap (λ (c : Bool). if c then (record { a = v; b = w }) else (record { a = w; b = v })) e in
    subst (λ (t : GridSegment). Contains (class_links n R N) (link t.b t.a)) s
    (right_link n R N at h.even h.within
    (right_alone' (number_at N at Left == n) (number_at N at Right == n) h.alone (sym f ∙ is_false r none)))

-- ---- the cycle, turned
pub round_of : (R : List GridSegment) (N : List SideClasses) (n : ℕ) (c t : List GridPoint) (forward : Bool) (v w : GridPoint)
    → AreOfRealm R → AreClassNumbers R N → IsCycle c → GoesAlong (class_links n R N) c → Contains (links (round c)) (link v w)
    → (IsTrue forward → Contains (class_links n R N) (link w v)) → ((IsTrue forward → ⊥) → Contains (class_links n R N) (link v w))
    → IsTurned (if forward then c else reverse c) t → BeginsLeast t → HaveLinks forward c t → IsRound R N n t
round_of R N n c t true v w realm numbers is_cycle goes first right left turn least have =
    by (with_class R N n c realm numbers is_cycle goes)
  where
    by : GoesWith (class_links n R N) c → IsRound R N n t
    by (With all has) = absurd (one_way R N n (link v w) realm (all (link v w) first) (right refl))
    by (Against all has) = record {
      is_cycle = cycle_turned c t is_cycle turn;
      begins_least = least;
      only = λ l m. all l (link_was true c t l have m);
      all = λ l m. link_is true c t l have (has (back l) m);
    }
round_of R N n c t false v w realm numbers is_cycle goes first right left turn least have =
    by (with_class R N n c realm numbers is_cycle goes)
  where
    not_true : IsTrue false → ⊥
    not_true e = cc

    by : GoesWith (class_links n R N) c → IsRound R N n t
    by (Against all has) = absurd (one_way R N n (link v w) realm (left not_true) (all (link v w) first))
    by (With all has) = record {
      is_cycle = cycle_turned (reverse c) t (cycle_reversed c is_cycle) turn;
      begins_least = least;
      only = λ l m. all (back l) (link_was false c t l have m);
      all = λ l m. link_is false c t l have (has (back l) m);
    }

pub if_three : (X E : Type 0) (P Q S T : X → Type 0) (r : Result X E) → ((x : X) → P x → Q x → S x → T x) → IfOk r P → IfOk r Q → IfOk r S
    → IfOk r T
if_three X E P Q S T (Ok x) f p q s = f x p q s
if_three X E P Q S T (Err e) f p q s = p

pub one_is : {X : Type 0} (xs : List X) (d : X) → length xs ≡ 1 → d ≡ get_or xs 0 d → xs ≡ d ∷ []
one_is [] d e f = absurd (omega (arith, e))
one_is (x ∷ []) d e f = ap (λ y. y ∷ []) (sym f)
one_is (x ∷ y ∷ xs) d e f = absurd (omega (arith, e))

-- the first link of a cycle
pub first_link : (c : List GridPoint) (v w : GridPoint) → IsCycle c → v ≡ get_or c 0 v → w ≡ get_or c 1 w
    → Contains (links (round c)) (link v w)
first_link [] v w h e f = absurd (omega (arith, h.three))
first_link (a ∷ []) v w h e f = absurd (omega (arith, h.three))
first_link (a ∷ b ∷ c) v w h e f = subst (Contains (links (round (a ∷ b ∷ c)))) (ap₂ link (sym e) (sym f))
    (Contains-here (link a b) (links (b ∷ (c ++ a ∷ []))))

-- the test of the order of points
less : (m n : ℕ) → nat_lt m n ≡ true → m < n
less m n h = grind (arith, nat_tests)

point_before : (v w : GridPoint) → is_before v w ≡ true → IsBefore v w
point_before v w h = elim (one_true (nat_lt v.x w.x) ((v.x == w.x) && nat_lt v.y w.y) h) [
  | inl e ↦ inl (less v.x w.x e)
  | inr e ↦ let p = both_true (v.x == w.x) (nat_lt v.y w.y) e in inr (same_number v.x w.x p.0, less v.y w.y p.1)
]

pub before_is : (v w : GridPoint) (b : Bool) → IsTrue b ↔ IsBefore v w → is_before v w ≡ b
before_is v w true h = let before = h.0 refl in grind (arith, nat_tests, before)
before_is v w false h = by (is_before v w) refl
  where
    by : (c : Bool) → is_before v w ≡ c → is_before v w ≡ false
    by false e = e
    by true e =
        let before : IsBefore v w = point_before v w e in
        absurd (never (h.1 before))
      where
        never : IsTrue false → ⊥
        never x = cc
