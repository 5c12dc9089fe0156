-- This file shows that the segments with a class on one side alone are an even border, and which segments these are.
use Rattle.std.proofs.Common.{◌≡◌, ◌⊎◌, ℕ, zero, suc, ◌+◌, ◌%◌, ◌<◌, ◌==◌, Bool, true, false, not, ◌&&◌, ◌||◌, if◌then◌else◌, List, [], ◌∷◌}
use Rattle.std.proofs.Common.{length, Contains, AllPairs, count_by, refl, sym, subst, ◌∙◌, arith, inl, inr}
use Rattle.std.proofs.lemmas.List.Kept.{AllPairs-cons}
use Rattle.std.proofs.lemmas.List.Elements.{Contains-get_or}
use Rattle.grid_base.specs.Point.{GridPoint, IsBefore, is_point}
use Rattle.grid_base.specs.Segment.{GridSegment, IsSegmentBefore}
use Rattle.grid_base.specs.Border.{is_end, IsEvenBorder}
use Rattle.grid_base.proofs.Orders.{is_point-same, is_point-itself}
use Rattle.grid_base.proofs.Ends.{not_before_itself}
use Rattle.grid_base.proofs.Elements.{Contains-here, Contains-later, Contains-cases, Contains-nil}
use Rattle.r_cycles.specs.Cycles.{Link, link}
use Rattle.r_cycles.proofs.Counts.{count_by-cons}
use Rattle.plane_classes.proofs.Ways.{AreInOrder}
use Rattle.plane_cells.specs.Numbered.{numbered}
use Rattle.plane_cells.specs.Sheared.{AreOfRealm}
use Rattle.plane_cells.specs.ClassNumbers.{AreClassNumbers}
use Rattle.plane_cells.specs.declared.classes.SideClasses.{SideClasses}
use Rattle.plane_cells.proofs.RimCounts.{rest_ascends, first_before}
use Rattle.class_borders.specs.ClassLinks.{is_left_alone, is_right_alone, class_links, class_rim, departures, arrivals}
use Rattle.class_borders.proofs.Tallies.{one}
use Rattle.class_borders.proofs.LinkCounts.{numbers_at}
use Rattle.class_borders.proofs.ClassTurns.{turns_whole}

-- ---- the ends of a segment
pub point_swap : (p v : GridPoint) → is_point p v ≡ is_point v p
point_swap p v = by (is_point p v) (is_point v p) refl refl
  where
    by : (b c : Bool) → is_point p v ≡ b → is_point v p ≡ c → is_point p v ≡ is_point v p
    by true true e f = e ∙ sym f
    by false false e f = e ∙ sym f
    by true false e f =
        absurd (apart (sym f ∙ subst (λ (x : GridPoint). is_point v x ≡ true) (sym (is_point-same p v e)) (is_point-itself v)))
      where
        apart : false ≡ true → ⊥
        apart h = cc
    by false true e f =
        absurd (apart (sym e ∙ subst (λ (x : GridPoint). is_point p x ≡ true) (sym (is_point-same v p f)) (is_point-itself p)))
      where
        apart : false ≡ true → ⊥
        apart h = cc

end_counts : (v : GridPoint) (s : GridSegment) → IsBefore s.a s.b → one (is_end v s) ≡ one (is_point v s.a) + one (is_point v s.b)
end_counts v s before = rw (point_swap s.a v, point_swap s.b v) (by (is_point v s.a) (is_point v s.b) refl refl)
  where
    by : (b c : Bool) → is_point v s.a ≡ b → is_point v s.b ≡ c → one (b || c) ≡ one b + one c
    by true true e f = absurd (not_before_itself s.a s.b (sym (is_point-same v s.a e) ∙ is_point-same v s.b f) before)
    by true false e f = refl
    by false true e f = refl
    by false false e f = refl

-- ---- each link is one end at its beginning and one at its end
parts : (l r : Bool) (e : GridSegment → Bool) (d a : Link → Bool) (s : GridSegment) (p q : Link) (R : List GridSegment) (K : List Link)
    → one (e s) ≡ one (d p) + one (a p) → one (e s) ≡ one (d q) + one (a q) → count_by e R ≡ count_by d K + count_by a K
    → count_by e (if l && not r then s ∷ R else if r && not l then s ∷ R else R)
    ≡ count_by d (if l && not r then p ∷ K else if r && not l then q ∷ K else K)
    + count_by a (if l && not r then p ∷ K else if r && not l then q ∷ K else K)
parts true true e d a s p q R K f g h = h
parts true false e d a s p q R K f g h = omega (arith, f, h, count_by-cons e s R, count_by-cons d p K, count_by-cons a p K)
parts false true e d a s p q R K f g h = omega (arith, g, h, count_by-cons e s R, count_by-cons d q K, count_by-cons a q K)
parts false false e d a s p q R K f g h = h

rim_counts : (n : ℕ) (v : GridPoint) (B : List GridSegment) (N : List SideClasses) → AreInOrder B
    → count_by (is_end v) (class_rim n B N) ≡ departures v (class_links n B N) + arrivals v (class_links n B N)
rim_counts n v [] N o = refl
rim_counts n v (s ∷ B) [] o = refl
rim_counts n v (s ∷ B) (m ∷ N) o =
    let here = end_counts v s (o s (Contains-here s B)) in
    parts (m.left == n) (m.right == n) (is_end v) (λ l. is_point v l.from) (λ l. is_point v l.to) s (link s.a s.b) (link s.b s.a)
    (class_rim n B N) (class_links n B N) here (omega (arith, here)) (rim_counts n v B N (λ t there. o t (Contains-later s B t there)))

pub rim_is_even : (B : List GridSegment) (N : List SideClasses) (n : ℕ) → AreOfRealm B → AreClassNumbers B N
    → IsEvenBorder (class_rim n B N)
rim_is_even B N n realm c v =
    let all = rim_counts n v B N (λ s there. (realm.on_grid s there).order) in
    even _ _ _ all (turns_whole B N n v realm c)
  where
    even : (e d a : ℕ) → e ≡ d + a → d ≡ a → e % 2 ≡ 0
    even e d a h k = omega (arith, h, k)

-- ---- the segments of a rim
-- whether n is on one side alone
abbrev pub is_alone : ℕ → SideClasses → Bool
is_alone n m = is_left_alone n m || is_right_alone n m

picked : {X : Type 0} (l r : Bool) (P : List X → Type 0) (x y : List X) → ((l || r) ≡ true → P x) → ((l || r) ≡ false → P y)
    → P (if l then x else if r then x else y)
picked true r P x y f g = f refl
picked false true P x y f g = f refl
picked false false P x y f g = g refl

pub rim_part : (n : ℕ) (B : List GridSegment) (N : List SideClasses) (s : GridSegment) → Contains (class_rim n B N) s → Contains B s
rim_part n [] N s m = m
rim_part n (t ∷ B) [] s m = absurd (Contains-nil s m)
rim_part n (t ∷ B) (k ∷ N) s here =
    picked (is_left_alone n k) (is_right_alone n k) (λ l. Contains l s → Contains (t ∷ B) s) (t ∷ class_rim n B N) (class_rim n B N)
    (λ e m. elim (Contains-cases t (class_rim n B N) s m) [
      | inl same ↦ subst (Contains (t ∷ B)) same (Contains-here t B)
      | inr later ↦ Contains-later t B s (rim_part n B N s later)
    ])
    (λ e m. Contains-later t B s (rim_part n B N s m)) here

pub rim_ascends : (n : ℕ) (B : List GridSegment) (N : List SideClasses) → AllPairs IsSegmentBefore B
    → AllPairs IsSegmentBefore (class_rim n B N)
rim_ascends n [] N up = up
rim_ascends n (s ∷ B) [] up = λ i j d less within. absurd (omega (arith, within))
rim_ascends n (s ∷ B) (k ∷ N) up =
    let rest = rim_ascends n B N (rest_ascends s B up) in
    picked (is_left_alone n k) (is_right_alone n k) (AllPairs IsSegmentBefore) (s ∷ class_rim n B N) (class_rim n B N)
    (λ e. AllPairs-cons IsSegmentBefore s (class_rim n B N)
    (λ j d within. first_before s B _ up (rim_part n B N _ (Contains-get_or (class_rim n B N) j d within))) rest)
    (λ e. rest)

-- the number of a segment of a rim
pub rim_number : (n : ℕ) (B : List GridSegment) (N : List SideClasses) (s : GridSegment) → Contains (class_rim n B N) s
    → (i : ℕ) × (i < length B) × (numbered B i ≡ s) × (is_alone n (numbers_at N i) ≡ true)
rim_number n [] N s m = absurd (Contains-nil s m)
rim_number n (t ∷ B) [] s m = absurd (Contains-nil s m)
rim_number n (t ∷ B) (k ∷ N) s here =
    picked (is_left_alone n k) (is_right_alone n k)
    (λ l. Contains l s → (i : ℕ) × (i < length (t ∷ B)) × (numbered (t ∷ B) i ≡ s) × (is_alone n (numbers_at (k ∷ N) i) ≡ true))
    (t ∷ class_rim n B N) (class_rim n B N)
    (λ e m. elim (Contains-cases t (class_rim n B N) s m) [
      | inl same ↦ (0, omega arith, same, e)
      | inr later ↦ let r = rim_number n B N s later in (suc r.0, omega (arith, r.1), r.2, r.3)
    ])
    (λ e m. let r = rim_number n B N s m in (suc r.0, omega (arith, r.1), r.2, r.3)) here

-- ---- the links of a class
-- the segment along which a link of the class leads
pub record IsAlong (n : ℕ) (B : List GridSegment) (N : List SideClasses) (l : Link) : Type 0 where
  pub place : ℕ
  pub within : place < length B
  pub leads : ((is_left_alone n (numbers_at N place) ≡ true) × (l ≡ link (numbered B place).a (numbered B place).b))
      ⊎ ((is_right_alone n (numbers_at N place) ≡ true) × (l ≡ link (numbered B place).b (numbered B place).a))

along_later : (n : ℕ) (t : GridSegment) (B : List GridSegment) (k : SideClasses) (N : List SideClasses) (l : Link) → IsAlong n B N l
    → IsAlong n (t ∷ B) (k ∷ N) l
along_later n t B k N l h = record { place = suc h.place; within = omega (arith, h.within); leads = h.leads }

pub link_along : (n : ℕ) (B : List GridSegment) (N : List SideClasses) (l : Link) → Contains (class_links n B N) l → IsAlong n B N l
link_along n [] N l m = absurd (Contains-nil l m)
link_along n (t ∷ B) [] l m = absurd (Contains-nil l m)
link_along n (t ∷ B) (k ∷ N) l here = by (is_left_alone n k) (is_right_alone n k) refl refl (link_along n B N l) here
  where
    by : (b c : Bool) → is_left_alone n k ≡ b → is_right_alone n k ≡ c
        → (Contains (class_links n B N) l → IsAlong n B N l)
        → Contains (if b then link t.a t.b ∷ class_links n B N else if c then link t.b t.a ∷ class_links n B N else class_links n B N) l
        → IsAlong n (t ∷ B) (k ∷ N) l
    by true c e f rest m = elim (Contains-cases (link t.a t.b) (class_links n B N) l m) [
      | inl same ↦ record { place = 0; within = omega arith; leads = inl (e, sym same) }
      | inr later ↦ along_later n t B k N l (rest later)
    ]
    by false true e f rest m = elim (Contains-cases (link t.b t.a) (class_links n B N) l m) [
      | inl same ↦ record { place = 0; within = omega arith; leads = inr (f, sym same) }
      | inr later ↦ along_later n t B k N l (rest later)
    ]
    by false false e f rest m = along_later n t B k N l (rest m)

later_link : (b c : Bool) (p q l : Link) (K : List Link) → Contains K l → Contains (if b then p ∷ K else if c then q ∷ K else K) l
later_link true c p q l K m = Contains-later p K l m
later_link false true p q l K m = Contains-later q K l m
later_link false false p q l K m = m

first_link : (b c : Bool) (p q : Link) (K : List Link) → b ≡ true → Contains (if b then p ∷ K else if c then q ∷ K else K) p
first_link true c p q K e = Contains-here p K
first_link false c p q K e = cc

second_link : (b c : Bool) (p q : Link) (K : List Link) → b ≡ false → c ≡ true → Contains (if b then p ∷ K else if c then q ∷ K else K) q
second_link true c p q K e f = cc
second_link false true p q K e f = Contains-here q K
second_link false false p q K e f = cc

not_left : (l r : Bool) → (r && not l) ≡ true → (l && not r) ≡ false
not_left true true h = refl
not_left true false h = cc
not_left false r h = refl

pub left_link : (n : ℕ) (B : List GridSegment) (N : List SideClasses) (i : ℕ) → length N ≡ length B → i < length B
    → is_left_alone n (numbers_at N i) ≡ true → Contains (class_links n B N) (link (numbered B i).a (numbered B i).b)
left_link n [] N i e h a = absurd (omega (arith, h))
left_link n (t ∷ B) [] i e h a = absurd (omega (arith, e))
left_link n (t ∷ B) (k ∷ N) zero e h a =
    first_link (is_left_alone n k) (is_right_alone n k) (link t.a t.b) (link t.b t.a) (class_links n B N) a
left_link n (t ∷ B) (k ∷ N) (suc i) e h a =
    later_link (is_left_alone n k) (is_right_alone n k) (link t.a t.b) (link t.b t.a) _ (class_links n B N)
    (left_link n B N i (omega (arith, e)) (omega (arith, h)) a)

pub right_link : (n : ℕ) (B : List GridSegment) (N : List SideClasses) (i : ℕ) → length N ≡ length B → i < length B
    → is_right_alone n (numbers_at N i) ≡ true → Contains (class_links n B N) (link (numbered B i).b (numbered B i).a)
right_link n [] N i e h a = absurd (omega (arith, h))
right_link n (t ∷ B) [] i e h a = absurd (omega (arith, e))
right_link n (t ∷ B) (k ∷ N) zero e h a =
    second_link (is_left_alone n k) (is_right_alone n k) (link t.a t.b) (link t.b t.a) (class_links n B N)
    (not_left (k.left == n) (k.right == n) a) a
right_link n (t ∷ B) (k ∷ N) (suc i) e h a =
    later_link (is_left_alone n k) (is_right_alone n k) (link t.a t.b) (link t.b t.a) _ (class_links n B N)
    (right_link n B N i (omega (arith, e)) (omega (arith, h)) a)
