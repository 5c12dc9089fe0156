-- This file shows that the cycles round the classes beyond a face are its borders.
use Rattle.std.proofs.Common.{◌≡◌, ◌≢◌, ◌⊎◌, ◌↔◌, ℕ, zero, suc, ◌+◌, ◌<◌, ◌==◌, Bool, true, false, not, ◌&&◌, if◌then◌else◌}
use Rattle.std.proofs.Common.{List, [], ◌∷◌, ◌++◌, length, slice_index, get_or, remove, Contains, AllPairs, refl, sym, ap, subst, ◌∙◌}
use Rattle.std.proofs.Common.{arith, inl, inr}
use Rattle.std.specs.List.Sorted.{IsStrictlyIncreasing}
use Rattle.std.proofs.lemmas.List.Elements.{Contains-get_or}
use Rattle.std.proofs.lemmas.List.Kept.{AllPairs-from_increasing}
use Rattle.grid_base.specs.Point.{GridPoint, IsBefore}
use Rattle.grid_base.specs.Segment.{GridSegment}
use Rattle.grid_base.specs.Sides.{Side, Left, On, Right}
use Rattle.grid_base.specs.Plane.{Place, IsFree, IsBeside}
use Rattle.grid_base.specs.Odd.{Odd}
use Rattle.grid_base.proofs.Elements.{Contains-here, same_place}
use Rattle.grid_base.proofs.Booleans.{both_true, same_number, number_itself}
use Rattle.grid_base.proofs.Signs.{left_off, right_off}
use Rattle.grid_base.proofs.Orders.{IsBefore-asym}
use Rattle.grid_base.proofs.Collinear.{same_segment}
use Rattle.plane_classes.specs.Classes.{AreInOneClass, IsOuter}
use Rattle.plane_classes.proofs.ClassLemmas.{one_class_back, one_class_joined, itself_in_class}
use Rattle.plane_classes.proofs.Counts.{one_parity}
use Rattle.plane_classes.proofs.Outer.{outer_is_even, outer_goes_on}
use Rattle.plane_cells.specs.Numbered.{nowhere, numbered}
use Rattle.plane_cells.specs.ClassNumbers.{number_at, LiesBeside, IsBySome, AreClassNumbers}
use Rattle.plane_cells.specs.declared.classes.SideClasses.{SideClasses}
use Rattle.plane_cells.proofs.ShearedRealm.{numbered_in, number_of}
use Rattle.plane_cells.proofs.ShearedSides.{free_beside}
use Rattle.r_cycles.specs.Cycles.{Link, link, links, round, IsCycle}
use Rattle.r_blocks.specs.Places.{those}
use Rattle.r_blocks.proofs.AtPlaces.{those_have}
use Rattle.class_borders.specs.ClassLinks.{is_left_alone, is_right_alone, class_links, class_rim}
use Rattle.class_borders.specs.ClassBorders.{back}
use Rattle.class_borders.proofs.LinkCounts.{numbers_at}
use Rattle.class_borders.proofs.EvenRims.{is_alone, IsAlong, link_along, left_link, right_link}
use Rattle.r_faces.specs.FaceCycles.{HasBeside, RunsBetween, IsBorderCycle, IsEnclosed}
use Rattle.r_faces.specs.Parted.{AreKeys}
use Rattle.r_faces.specs.Rims.{IsInside}
use Rattle.r_faces.specs.Rounds.{AreBeyond, IsFaceNumber, IsRound}
use Rattle.r_faces.proofs.FaceRims.{IsKnown, in_order, differ, test_no, those_alone, alone_on_left, alone_on_right}

-- ---- the side of the face
-- the face is on the side d of segment i
record IsFaceSide (R : List GridSegment) (N : List SideClasses) (z : Place) (i : ℕ) : Type 0 where
  side : Side
  place : Place
  lies : LiesBeside R i side place
  one : AreInOneClass R z place
  odd : Odd R place

parity : (R : List GridSegment) (N : List SideClasses) (p q : Place) → IsKnown R N → AreInOneClass R p q → Odd R p ↔ Odd R q
parity R N p q k one = one_parity R (λ j d within. in_order R k.realm _ (j, within, same_place R j _ d within)) k.even p q one

face_side : (R : List GridSegment) (N : List SideClasses) (z : Place) (i : ℕ) → IsKnown R N → IsInside R z → i < length R
    → IsFaceSide R N z i
face_side R N z i k inside hi =
    let b = inside.beside (numbered R i) (numbered_in R i hi) in
    let has = b.2 in record {
      side = b.0;
      place = has.0;
      lies = record { within = hi; sided = b.1; beside = has.1 };
      one = has.2;
      odd = (parity R N z has.0 k has.2).0 inside.odd;
    }

never_outer : (R : List GridSegment) (N : List SideClasses) (i : ℕ) (d : Side) (q : Place) → IsKnown R N → LiesBeside R i d q → Odd R q
    → number_at N i d ≡ 0 → ⊥
never_outer R N i d q k lies odd e = outer_is_even R (in_order R k.realm) k.even q ((k.numbers.outer i d q lies).0 e) odd

-- the number on the left of a segment that has the outer class on its right is that of the face
pub record IsFaceKey (R : List GridSegment) (N : List SideClasses) (face : ℕ) : Type 0 where
  pub at : ℕ
  pub within : at < length R
  pub outer : number_at N at Right ≡ 0
  pub is : face ≡ number_at N at Left

face_at : (R : List GridSegment) (N : List SideClasses) (z : Place) (face : ℕ) (key : IsFaceKey R N face) → IsKnown R N → IsInside R z
    → (q : Place) × LiesBeside R key.at Left q × AreInOneClass R z q
face_at R N z face key k inside = by (face_side R N z key.at k inside key.within)
  where
    by : IsFaceSide R N z key.at → (q : Place) × LiesBeside R key.at Left q × AreInOneClass R z q
    by s = go s.side s.lies (λ e. never_outer R N key.at s.side s.place k s.lies s.odd e)
      where
        go : (d : Side) → LiesBeside R key.at d s.place → (number_at N key.at d ≡ 0 → ⊥)
            → (q : Place) × LiesBeside R key.at Left q × AreInOneClass R z q
        go Left lies not_zero = (s.place, lies, s.one)
        go On lies not_zero = absurd (lies.sided refl)
        go Right lies not_zero = absurd (not_zero key.outer)

-- what lies beside a segment is of the face exactly where it has the face's number
pub face_tells : (R : List GridSegment) (N : List SideClasses) (z : Place) (face : ℕ) → IsFaceKey R N face → IsKnown R N → IsInside R z
    → (i : ℕ) (d : Side) (q : Place) → LiesBeside R i d q → (number_at N i d ≡ face) ↔ AreInOneClass R z q
face_tells R N z face key k inside i d q lies =
    let f = face_at R N z face key k inside in
    let c = k.numbers.one_class i key.at d Left q f.0 lies f.1 in (
      λ e. one_class_joined R z f.0 q f.2 (one_class_back R q f.0 (c.0 (e ∙ key.is))),
      λ one. c.1 (one_class_joined R q z f.0 (one_class_back R z q one) f.2) ∙ sym key.is,
    )

pub face_number_is : (R : List GridSegment) (N : List SideClasses) (z : Place) (face : ℕ) → IsFaceKey R N face → IsKnown R N → IsInside R z
    → IsFaceNumber R N face
face_number_is R N z face key k inside i hi = by (face_side R N z i k inside hi)
  where
    p : (u : Place) × LiesBeside R i Left u
    p = k.numbers.some i Left hi left_off

    q : (u : Place) × LiesBeside R i Right u
    q = k.numbers.some i Right hi right_off

    tells : (d : Side) (u : Place) → LiesBeside R i d u → (number_at N i d ≡ face) ↔ AreInOneClass R z u
    tells d u lies = face_tells R N z face key k inside i d u lies

    odd_if : (d : Side) (u : Place) → LiesBeside R i d u → number_at N i d ≡ face → Odd R u
    odd_if d u lies e = (parity R N z u k ((tells d u lies).0 e)).0 inside.odd

    by : IsFaceSide R N z i → ((number_at N i Left ≡ face) × (number_at N i Right ≢ face))
        ⊎ ((number_at N i Right ≡ face) × (number_at N i Left ≢ face))
    by s = go s.side s.lies
      where
        go : (d : Side) → LiesBeside R i d s.place → ((number_at N i Left ≡ face) × (number_at N i Right ≢ face))
            ⊎ ((number_at N i Right ≡ face) × (number_at N i Left ≢ face))
        go Left lies = inl (
          (tells Left s.place lies).1 s.one,
          λ e. (differ R N i s.place q.0 k hi lies.beside q.1.beside).0 s.odd (odd_if Right q.0 q.1 e),
        )
        go On lies = absurd (lies.sided refl)
        go Right lies = inr (
          (tells Right s.place lies).1 s.one,
          λ e. (differ R N i p.0 s.place k hi p.1.beside lies.beside).0 (odd_if Left p.0 p.1 e) s.odd,
        )

-- ---- the numbers beyond the face

-- the number beyond the face at segment i is on the right, with the face on the left, or the other way
pub beyond_is : (R : List GridSegment) (N : List SideClasses) (U : List ℕ) (face i : ℕ) → IsFaceNumber R N face
    → AreBeyond N face (length R) U → i < length R
    → ((number_at N i Left ≡ face) × (slice_index U i ≡ number_at N i Right) × (number_at N i Right ≢ face))
    ⊎ ((number_at N i Right ≡ face) × (slice_index U i ≡ number_at N i Left) × (number_at N i Left ≢ face))
beyond_is R N U face i two u hi = by (two i hi)
  where
    by : ((number_at N i Left ≡ face) × (number_at N i Right ≢ face)) ⊎ ((number_at N i Right ≡ face) × (number_at N i Left ≢ face))
        → ((number_at N i Left ≡ face) × (slice_index U i ≡ number_at N i Right) × (number_at N i Right ≢ face))
        ⊎ ((number_at N i Right ≡ face) × (slice_index U i ≡ number_at N i Left) × (number_at N i Left ≢ face))
    by (inl h) = inl (
      h.0,
      u.each i hi ∙ ap (λ (b : Bool). if b then number_at N i Right else number_at N i Left) (number_itself (number_at N i Left) face h.0),
      h.1,
    )
    by (inr h) = inr (
      h.0,
      u.each i hi ∙ ap (λ (b : Bool). if b then number_at N i Right else number_at N i Left) (test_no (number_at N i Left) face h.1),
      h.1,
    )

pub beyond_other : (R : List GridSegment) (N : List SideClasses) (U : List ℕ) (face i : ℕ) → IsFaceNumber R N face
    → AreBeyond N face (length R) U → i < length R → slice_index U i ≢ face
beyond_other R N U face i two u hi e = elim (beyond_is R N U face i two u hi) [
  | inl h ↦ h.2 (sym h.1 ∙ e)
  | inr h ↦ h.2 (sym h.1 ∙ e)
]

-- the segments with a number beyond the face are those with the class on one side alone
pub beyond_rim : (R : List GridSegment) (N : List SideClasses) (U : List ℕ) (face m : ℕ) → AreClassNumbers R N → IsFaceNumber R N face
    → AreBeyond N face (length R) U → m ≢ face → those m U R ≡ class_rim m R N
beyond_rim R N U face m c two u other = those_alone m U R N u.one_each c.one_each (λ i hi. by i (beyond_is R N U face i two u hi))
  where
    by : (i : ℕ) → ((number_at N i Left ≡ face) × (slice_index U i ≡ number_at N i Right) × (number_at N i Right ≢ face))
        ⊎ ((number_at N i Right ≡ face) × (slice_index U i ≡ number_at N i Left) × (number_at N i Left ≢ face))
        → (m == slice_index U i) ≡ is_alone m (numbers_at N i)
    by i (inl h) = alone_on_right N i m (slice_index U i) h.1 (λ e. other (sym e ∙ h.0))
    by i (inr h) = alone_on_left N i m (slice_index U i) h.1 (λ e. other (sym e ∙ h.0))

-- 0 is one of the numbers
pub zero_beyond : (R : List GridSegment) (N : List SideClasses) (U : List ℕ) (face : ℕ) (key : IsFaceKey R N face)
    → AreBeyond N face (length R) U → slice_index U key.at ≡ 0
zero_beyond R N U face key u =
    u.each key.at key.within
    ∙ ap (λ (b : Bool). if b then number_at N key.at Right else number_at N key.at Left)
    (number_itself (number_at N key.at Left) face (sym key.is))
    ∙ key.outer

-- and so the least of the keys
pub first_is_zero : (keys : List ℕ) → IsStrictlyIncreasing keys → Contains keys 0 → slice_index keys 0 ≡ 0
first_is_zero keys up (zero, within, e) = same_place keys 0 0 0 within ∙ e
first_is_zero keys up (suc i, within, e) =
    let l = AllPairs-from_increasing keys up 0 (suc i) 0 (omega arith) within in absurd (omega (arith, l, e))

-- ---- a cycle round a class is a border of the face
-- P is the class with this number
abbrev pub Says : List GridSegment → List SideClasses → ℕ → (Place → Type 0) → Type 0
Says R N m P = (i : ℕ) (d : Side) (q : Place) → LiesBeside R i d q → (number_at N i d ≡ m) ↔ P q

alone_yes : (l r : Bool) → l ≡ true → r ≡ false → (l && not r) ≡ true
alone_yes true true e f = cc
alone_yes true false e f = refl
alone_yes false r e f = cc

pub border_cycle : (R : List GridSegment) (N : List SideClasses) (z : Place) (face m : ℕ) (P : Place → Type 0) (c : List GridPoint)
    → IsFaceKey R N face → IsKnown R N → IsInside R z → m ≢ face → Says R N m P → IsRound R N m c → IsBorderCycle R z P c
border_cycle R N z face m P c key k inside other says h = record {
  is_cycle = h.is_cycle;
  begins_least = h.begins_least;
  between = λ i d within. runs _ (h.only _ (Contains-get_or (links (round c)) i d within));
  all_links = λ l r. h.all l (has l r);
}
  where
    two : IsFaceNumber R N face
    two = face_number_is R N z face key k inside

    beside : (i : ℕ) (d : Side) → i < length R → (d ≡ On → ⊥) → number_at N i d ≡ m → HasBeside R (numbered R i) d P
    beside i d hi off e = let q = k.numbers.some i d hi off in (q.0, q.1.beside, (says i d q.0 q.1).0 e)

    faced : (i : ℕ) (d : Side) → i < length R → (d ≡ On → ⊥) → number_at N i d ≡ face
        → HasBeside R (numbered R i) d (AreInOneClass R z)
    faced i d hi off e =
        let q = k.numbers.some i d hi off in (q.0, q.1.beside, (face_tells R N z face key k inside i d q.0 q.1).0 e)

    runs : (l : Link) → Contains (class_links m R N) (back l) → RunsBetween R z P l
    runs l there = by (link_along m R N (back l) there)
      where
        by : IsAlong m R N (back l) → RunsBetween R z P l
        by a = ways a.leads
          where
            s : GridSegment
            s = numbered R a.place

            ways : ((is_left_alone m (numbers_at N a.place) ≡ true) × (back l ≡ link s.a s.b))
                ⊎ ((is_right_alone m (numbers_at N a.place) ≡ true) × (back l ≡ link s.b s.a)) → RunsBetween R z P l
            ways (inl x) =
                let on_left = same_number (number_at N a.place Left) m (both_true _ _ x.0).0 in (
                  s,
                  numbered_in R a.place a.within,
                  inr (
                    ap back x.1,
                    faced a.place Right a.within right_off (right_face on_left (two a.place a.within)),
                    beside a.place Left a.within left_off on_left,
                  ),
                )
              where
                right_face : number_at N a.place Left ≡ m
                    → ((number_at N a.place Left ≡ face) × (number_at N a.place Right ≢ face))
                    ⊎ ((number_at N a.place Right ≡ face) × (number_at N a.place Left ≢ face)) → number_at N a.place Right ≡ face
                right_face e (inl f) = absurd (other (sym e ∙ f.0))
                right_face e (inr f) = f.0
            ways (inr x) =
                let on_right = same_number (number_at N a.place Right) m (both_true _ _ x.0).0 in (
                  s,
                  numbered_in R a.place a.within,
                  inl (
                    ap back x.1,
                    faced a.place Left a.within left_off (left_face on_right (two a.place a.within)),
                    beside a.place Right a.within right_off on_right,
                  ),
                )
              where
                left_face : number_at N a.place Right ≡ m
                    → ((number_at N a.place Left ≡ face) × (number_at N a.place Right ≢ face))
                    ⊎ ((number_at N a.place Right ≡ face) × (number_at N a.place Left ≢ face)) → number_at N a.place Left ≡ face
                left_face e (inl f) = f.0
                left_face e (inr f) = absurd (other (sym e ∙ f.0))

    lies_at : (i : ℕ) (s : GridSegment) (d : Side) (q : Place) → i < length R → numbered R i ≡ s → (d ≡ On → ⊥) → IsBeside R s d q
        → LiesBeside R i d q
    lies_at i s d q hi e off b = record { within = hi; sided = off; beside = subst (λ (t : GridSegment). IsBeside R t d q) (sym e) b }

    has : (l : Link) → RunsBetween R z P l → Contains (class_links m R N) (back l)
    has l (s, there, inl (e, of_face, of_P)) =
        let i = number_of R s there in
        let left = (face_tells R N z face key k inside i.0 Left of_face.0 (lies_at i.0 s Left of_face.0 i.1 i.2 left_off of_face.1)).1
        of_face.2 in
        let right = (says i.0 Right of_P.0 (lies_at i.0 s Right of_P.0 i.1 i.2 right_off of_P.1)).1 of_P.2 in
        subst (Contains (class_links m R N)) (sym (ap back e))
        (subst (λ (t : GridSegment). Contains (class_links m R N) (link t.b t.a)) i.2
        (right_link m R N i.0 k.numbers.one_each i.1
        (alone_yes (number_at N i.0 Right == m) (number_at N i.0 Left == m) (number_itself _ m right)
        (test_no _ m (λ f. other (sym f ∙ left))))))
    has l (s, there, inr (e, of_face, of_P)) =
        let i = number_of R s there in
        let right = (face_tells R N z face key k inside i.0 Right of_face.0 (lies_at i.0 s Right of_face.0 i.1 i.2 right_off of_face.1)).1
        of_face.2 in
        let left = (says i.0 Left of_P.0 (lies_at i.0 s Left of_P.0 i.1 i.2 left_off of_P.1)).1 of_P.2 in
        subst (Contains (class_links m R N)) (sym (ap back e))
        (subst (λ (t : GridSegment). Contains (class_links m R N) (link t.a t.b)) i.2
        (left_link m R N i.0 k.numbers.one_each i.1
        (alone_yes (number_at N i.0 Left == m) (number_at N i.0 Right == m) (number_itself _ m left)
        (test_no _ m (λ f. other (sym f ∙ right))))))

-- ---- the classes
pub outer_says : (R : List GridSegment) (N : List SideClasses) → AreClassNumbers R N → Says R N 0 (IsOuter R)
outer_says R N c i d q lies = c.outer i d q lies

pub class_says : (R : List GridSegment) (N : List SideClasses) (m j : ℕ) (e : Side) (y p : Place) → AreClassNumbers R N
    → LiesBeside R j e p → AreInOneClass R y p → number_at N j e ≡ m → Says R N m (AreInOneClass R y)
class_says R N m j e y p c at one is i d q lies =
    let t = c.one_class i j d e q p lies at in (
      λ f. one_class_joined R y p q one (one_class_back R q p (t.0 (f ∙ sym is))),
      λ same. t.1 (one_class_joined R q y p (one_class_back R y q same) one) ∙ is,
    )

-- ---- the classes beyond the face, by their keys
pub record IsCut (R : List GridSegment) (N : List SideClasses) (face : ℕ) (U keys : List ℕ) : Type 0 where
  pub known : IsKnown R N
  pub key : IsFaceKey R N face
  pub beyond : AreBeyond N face (length R) U
  pub keys_are : AreKeys U keys

abbrev pub HasOuterRight : List SideClasses → ℕ → Type 0
HasOuterRight N face = (i : ℕ) × (i < length N) × (number_at N i Right ≡ 0) × (face ≡ number_at N i Left)

pub cut_of : (R : List GridSegment) (N N2 N3 : List SideClasses) (face : ℕ) (U U4 keys : List ℕ) → IsKnown R N → N2 ≡ N → N3 ≡ N → U4 ≡ U
    → HasOuterRight N2 face → AreBeyond N3 face (length N3) U → AreKeys U4 keys → IsCut R N face U keys
cut_of R N N2 N3 face U U4 keys k e f g outer beyond of_keys =
    let o = subst (λ (M : List SideClasses). HasOuterRight M face) e outer in
    let b = subst (λ (M : List SideClasses). AreBeyond M face (length M) U) f beyond in
    record {
      known = k;
      key = record { at = o.0; within = omega (arith, o.1, k.numbers.one_each); outer = o.2; is = o.3 };
      beyond = subst (λ (n : ℕ). AreBeyond N face n U) k.numbers.one_each b;
      keys_are = subst (λ (V : List ℕ). AreKeys V keys) g of_keys;
    }

-- a key is the number beyond the face at some segment
pub key_comes : (R : List GridSegment) (N : List SideClasses) (face : ℕ) (U keys : List ℕ) (k : ℕ) → IsCut R N face U keys → k < length keys
    → (i : ℕ) × (i < length R) × (slice_index U i ≡ slice_index keys k)
key_comes R N face U keys k h within =
    let there = (h.keys_are.same (slice_index keys k)).0 (Contains-get_or keys k 0 within) in
    (there.0, omega (arith, there.1, h.beyond.one_each), same_place U there.0 0 (slice_index keys k) there.1 ∙ there.2)

pub key_other : (R : List GridSegment) (N : List SideClasses) (z : Place) (face : ℕ) (U keys : List ℕ) (k : ℕ) → IsCut R N face U keys
    → IsInside R z → k < length keys → slice_index keys k ≢ face
key_other R N z face U keys k h inside within e =
    let i = key_comes R N face U keys k h within in
    beyond_other R N U face i.0 (face_number_is R N z face h.key h.known inside) h.beyond i.1 (i.2 ∙ e)

pub zero_key : (R : List GridSegment) (N : List SideClasses) (face : ℕ) (U keys : List ℕ) → IsCut R N face U keys → Contains keys 0
zero_key R N face U keys h =
    let hi : h.key.at < length U = omega (arith, h.key.within, h.beyond.one_each) in
    (h.keys_are.same 0).1 (h.key.at, hi, same_place U h.key.at 0 0 hi ∙ zero_beyond R N U face h.key h.beyond)

pub some_of_key : (R : List GridSegment) (N : List SideClasses) (face : ℕ) (U keys : List ℕ) (k : ℕ) → IsCut R N face U keys
    → k < length keys → 0 < length (those (slice_index keys k) U R)
some_of_key R N face U keys k h within =
    let i = key_comes R N face U keys k h within in
    let has = those_have (slice_index keys k) U R i.0 nowhere h.beyond.one_each i.1 i.2 in omega (arith, has.1)

pub rim_of_key : (R : List GridSegment) (N : List SideClasses) (z : Place) (face : ℕ) (U keys : List ℕ) (k : ℕ) → IsCut R N face U keys
    → IsInside R z → k < length keys → those (slice_index keys k) U R ≡ class_rim (slice_index keys k) R N
rim_of_key R N z face U keys k h inside within =
    beyond_rim R N U face (slice_index keys k) h.known.numbers (face_number_is R N z face h.key h.known inside) h.beyond
    (key_other R N z face U keys k h inside within)

-- ---- the cycles of the keys
abbrev pub AreRounds : List GridSegment → List SideClasses → List ℕ → List (List GridPoint) → Type 0
AreRounds R N keys cycles = (k : ℕ) (d : List GridPoint) → k < length cycles → IsRound R N (slice_index keys k) (get_or cycles k d)

pub outer_of : (R : List GridSegment) (N : List SideClasses) (z : Place) (face : ℕ) (U keys : List ℕ) (cycles : List (List GridPoint))
    (outer : List GridPoint) → IsCut R N face U keys → IsInside R z → length cycles ≡ length keys → AreRounds R N keys cycles
    → outer ≡ get_or cycles 0 outer → IsBorderCycle R z (IsOuter R) outer
outer_of R N z face U keys cycles outer h inside e rounds is =
    let zero_in = zero_key R N face U keys h in
    let first = first_is_zero keys h.keys_are.ascending zero_in in
    let within : 0 < length keys = omega (arith, zero_in.1) in
    let round = subst (λ (m : ℕ). IsRound R N m (get_or cycles 0 outer)) first (rounds 0 outer (omega (arith, within, e))) in
    border_cycle R N z face 0 (IsOuter R) outer h.key h.known inside
    (λ f. key_other R N z face U keys 0 h inside within (first ∙ f)) (outer_says R N h.known.numbers)
    (subst (IsRound R N 0) (sym is) round)

-- the number of an enclosed place
enclosed_number : (R : List GridSegment) (N : List SideClasses) (z y : Place) (face : ℕ) (U keys : List ℕ) → IsCut R N face U keys
    → IsInside R z → IsEnclosed R z y
    → (m : ℕ) × (m ≢ 0) × Contains keys m × Says R N m (AreInOneClass R y)
enclosed_number R N z y face U keys h inside enc = by (h.known.numbers.each_class y enc.free)
  where
    by : IsOuter R y ⊎ IsBySome R y
        → (m : ℕ) × (m ≢ 0) × Contains keys m × Says R N m (AreInOneClass R y)
    by (inl outer) = absurd (enc.not_outer outer)
    by (inr (i, d, p, lies, one)) = (
      number_at N i d,
      (λ e. enc.not_outer (outer_goes_on R p y ((h.known.numbers.outer i d p lies).0 e) (one_class_back R y p one))),
      (h.keys_are.same (number_at N i d)).1 there,
      class_says R N (number_at N i d) i d y p h.known.numbers lies one refl,
    )
      where
        off_face : number_at N i d ≡ face → ⊥
        off_face e = enc.not_of_face (one_class_joined R z p y ((face_tells R N z face h.key h.known inside i d p lies).0 e)
            (one_class_back R y p one))

        is : slice_index U i ≡ number_at N i d
        is = go d lies.sided off_face (beyond_is R N U face i (face_number_is R N z face h.key h.known inside) h.beyond lies.within)
          where
            go : (d : Side) → (d ≡ On → ⊥) → (number_at N i d ≡ face → ⊥)
                → ((number_at N i Left ≡ face) × (slice_index U i ≡ number_at N i Right) × (number_at N i Right ≢ face))
                ⊎ ((number_at N i Right ≡ face) × (slice_index U i ≡ number_at N i Left) × (number_at N i Left ≢ face))
                → slice_index U i ≡ number_at N i d
            go Left off none (inl a) = absurd (none a.0)
            go Left off none (inr a) = a.1
            go On off none a = absurd (off refl)
            go Right off none (inl a) = a.1
            go Right off none (inr a) = absurd (none a.0)

        there : Contains U (number_at N i d)
        there =
            let hi : i < length U = omega (arith, lies.within, h.beyond.one_each) in
            (i, hi, same_place U i (number_at N i d) 0 hi ∙ is)

-- each enclosed class has a cycle behind the first
pub hole_of : (R : List GridSegment) (N : List SideClasses) (z y : Place) (face : ℕ) (U keys : List ℕ) (cycles : List (List GridPoint))
    → IsCut R N face U keys → IsInside R z → length cycles ≡ length keys → AreRounds R N keys cycles → IsEnclosed R z y
    → (k : ℕ) × (suc k < length cycles) × ((d : List GridPoint) → IsBorderCycle R z (AreInOneClass R y) (get_or cycles (suc k) d))
hole_of R N z y face U keys cycles h inside e rounds enc = by (enclosed_number R N z y face U keys h inside enc)
  where
    by : (m : ℕ) × (m ≢ 0) × Contains keys m × Says R N m (AreInOneClass R y)
        → (k : ℕ) × (suc k < length cycles) × ((d : List GridPoint) → IsBorderCycle R z (AreInOneClass R y) (get_or cycles (suc k) d))
    by (m, not_zero, (zero, within, is), says) =
        absurd (not_zero (sym is ∙ same_place keys 0 m 0 within ∙ first_is_zero keys h.keys_are.ascending (zero_key R N face U keys h)))
    by (m, not_zero, (suc k, within, is), says) =
        let at = same_place keys (suc k) 0 m within ∙ is in (
          k,
          omega (arith, within, e),
          λ d. border_cycle R N z face m (AreInOneClass R y) (get_or cycles (suc k) d) h.key h.known inside
              (λ f. key_other R N z face U keys (suc k) h inside within (at ∙ f)) says
              (subst (λ (n : ℕ). IsRound R N n (get_or cycles (suc k) d)) at (rounds (suc k) d (omega (arith, within, e)))),
        )

-- and each cycle behind the first is that of an enclosed class
pub of_hole : (R : List GridSegment) (N : List SideClasses) (z : Place) (face : ℕ) (U keys : List ℕ) (cycles : List (List GridPoint))
    (k : ℕ) (hole : List GridPoint) → IsCut R N face U keys → IsInside R z → length cycles ≡ length keys → AreRounds R N keys cycles
    → suc k < length cycles → get_or cycles (suc k) hole ≡ hole
    → (y : Place) × IsEnclosed R z y × IsBorderCycle R z (AreInOneClass R y) hole
of_hole R N z face U keys cycles k hole h inside e rounds within is = by (beyond_is R N U face i.0 two h.beyond i.1)
  where
    in_keys : suc k < length keys
    in_keys = omega (arith, within, e)

    m : ℕ
    m = slice_index keys (suc k)

    two : IsFaceNumber R N face
    two = face_number_is R N z face h.key h.known inside

    i : (i : ℕ) × (i < length R) × (slice_index U i ≡ m)
    i = key_comes R N face U keys (suc k) h in_keys

    not_zero : m ≡ 0 → ⊥
    not_zero f =
        let l = AllPairs-from_increasing keys h.keys_are.ascending 0 (suc k) 0 (omega arith) in_keys in omega (arith, l, f)

    at : (d : Side) → (d ≡ On → ⊥) → number_at N i.0 d ≡ m
        → (y : Place) × IsEnclosed R z y × IsBorderCycle R z (AreInOneClass R y) hole
    at d off f = (
      p.0,
      enclosed,
      border_cycle R N z face m (AreInOneClass R p.0) hole h.key h.known inside
          (key_other R N z face U keys (suc k) h inside in_keys)
          (class_says R N m i.0 d p.0 p.0 h.known.numbers p.1 (itself_in_class R p.0 free) f)
          (subst (IsRound R N m) is (rounds (suc k) hole within)),
    )
      where
        p : (u : Place) × LiesBeside R i.0 d u
        p = h.known.numbers.some i.0 d i.1 off

        free : IsFree R p.0
        free = free_beside R (numbered R i.0) d p.0 p.1.beside

        enclosed : IsEnclosed R z p.0
        enclosed = record {
          free = free;
          not_outer = λ o. not_zero (sym f ∙ (h.known.numbers.outer i.0 d p.0 p.1).1 o);
          not_of_face = λ one. key_other R N z face U keys (suc k) h inside in_keys
              (sym f ∙ (face_tells R N z face h.key h.known inside i.0 d p.0 p.1).1 one);
        }

    by : ((number_at N i.0 Left ≡ face) × (slice_index U i.0 ≡ number_at N i.0 Right) × (number_at N i.0 Right ≢ face))
        ⊎ ((number_at N i.0 Right ≡ face) × (slice_index U i.0 ≡ number_at N i.0 Left) × (number_at N i.0 Left ≢ face))
        → (y : Place) × IsEnclosed R z y × IsBorderCycle R z (AreInOneClass R y) hole
    by (inl a) = at Right right_off (sym a.1 ∙ i.2)
    by (inr a) = at Left left_off (sym a.1 ∙ i.2)

-- ---- one cycle more
pub one_more_round : {X : Type 0} (P : ℕ → X → Type 0) (l more : List X) (x : X) (k : ℕ) → more ≡ l ++ x ∷ [] → length l ≡ k → P k x
    → ((j : ℕ) (d : X) → j < length l → P j (get_or l j d))
    → (length more ≡ k + 1) × ((j : ℕ) (d : X) → j < length more → P j (get_or more j d))
one_more_round {X} P l more x k e n here so_far = (
  ap (λ (m : List X). length m) e ∙ longer l ∙ ap (λ (m : ℕ). m + 1) n,
  subst (λ (m : List X). (j : ℕ) (d : X) → j < length m → P j (get_or m j d)) (sym e)
      (λ j d within. at l j d P so_far (subst (λ (m : ℕ). P m x)
      (sym n) here) within),
)
  where
    longer : (l : List X) → length (l ++ x ∷ []) ≡ length l + 1
    longer [] = refl
    longer (y ∷ l) = let r = longer l in omega (arith, r)

    at : (l : List X) (j : ℕ) (d : X) (Q : ℕ → X → Type 0) → ((j : ℕ) (d : X) → j < length l → Q j (get_or l j d)) → Q (length l) x
        → j < length (l ++ x ∷ []) → Q j (get_or (l ++ x ∷ []) j d)
    at [] zero d Q all last within = last
    at [] (suc j) d Q all last within = absurd (omega (arith, within))
    at (y ∷ l) zero d Q all last within = all 0 d (omega arith)
    at (y ∷ l) (suc j) d Q all last within =
        at l j d (λ m. Q (suc m)) (λ m e h. all (suc m) e (omega (arith, h))) last (omega (arith, within))

-- ---- different classes have different cycles

link_class : (R : List GridSegment) (N : List SideClasses) (m n : ℕ) (l : Link) → IsKnown R N → Contains (class_links m R N) l
    → Contains (class_links n R N) l → m ≡ n
link_class R N m n l k there again = by (link_along m R N l there) (link_along n R N l again)
  where
    by : IsAlong m R N l → IsAlong n R N l → m ≡ n
    by a b = ways a.leads b.leads
      where
        s : GridSegment
        s = numbered R a.place

        t : GridSegment
        t = numbered R b.place

        order_s : IsBefore s.a s.b
        order_s = in_order R k.realm s (numbered_in R a.place a.within)

        order_t : IsBefore t.a t.b
        order_t = in_order R k.realm t (numbered_in R b.place b.within)

        place : s ≡ t → a.place ≡ b.place
        place e = k.realm.once a.place b.place a.within b.within e

        ways : ((is_left_alone m (numbers_at N a.place) ≡ true) × (l ≡ link s.a s.b))
            ⊎ ((is_right_alone m (numbers_at N a.place) ≡ true) × (l ≡ link s.b s.a))
            → ((is_left_alone n (numbers_at N b.place) ≡ true) × (l ≡ link t.a t.b))
            ⊎ ((is_right_alone n (numbers_at N b.place) ≡ true) × (l ≡ link t.b t.a)) → m ≡ n
        ways (inl x) (inl y) =
            let e = sym x.1 ∙ y.1 in
            let same = place (same_segment s t (ap (λ (j : Link). j.from) e) (ap (λ (j : Link). j.to) e)) in
            sym (same_number (number_at N a.place Left) m (both_true _ _ x.0).0) ∙ ap (λ (i : ℕ). number_at N i Left) same
            ∙ same_number (number_at N b.place Left) n (both_true _ _ y.0).0
        ways (inl x) (inr y) =
            let e = sym x.1 ∙ y.1 in
            absurd (IsBefore-asym s.a s.b order_s (subst (λ (p : GridPoint). IsBefore p s.a) (sym (ap (λ (j : Link). j.to) e))
            (subst (λ (p : GridPoint). IsBefore t.a p) (sym (ap (λ (j : Link). j.from) e)) order_t)))
        ways (inr x) (inl y) =
            let e = sym x.1 ∙ y.1 in
            absurd (IsBefore-asym s.a s.b order_s (subst (λ (p : GridPoint). IsBefore p s.a) (sym (ap (λ (j : Link). j.from) e))
            (subst (λ (p : GridPoint). IsBefore t.a p) (sym (ap (λ (j : Link). j.to) e)) order_t)))
        ways (inr x) (inr y) =
            let e = sym x.1 ∙ y.1 in
            let same = place (same_segment s t (ap (λ (j : Link). j.to) e) (ap (λ (j : Link). j.from) e)) in
            sym (same_number (number_at N a.place Right) m (both_true _ _ x.0).0) ∙ ap (λ (i : ℕ). number_at N i Right) same
            ∙ same_number (number_at N b.place Right) n (both_true _ _ y.0).0

pub some_link : (c : List GridPoint) → IsCycle c → (l : Link) × Contains (links (round c)) l
some_link [] h = absurd (omega (arith, h.three))
some_link (v ∷ []) h = absurd (omega (arith, h.three))
some_link (v ∷ w ∷ c) h = (link v w, Contains-here (link v w) (links (w ∷ (c ++ v ∷ []))))

round_number : (R : List GridSegment) (N : List SideClasses) (m n : ℕ) (c : List GridPoint) → IsKnown R N → IsRound R N m c
    → IsRound R N n c → m ≡ n
round_number R N m n c k h g =
    let l = some_link c h.is_cycle in link_class R N m n (back l.0) k (h.only l.0 l.1) (g.only l.0 l.1)

pub cycles_apart : (R : List GridSegment) (N : List SideClasses) (face : ℕ) (U keys : List ℕ) (cycles : List (List GridPoint))
    → IsCut R N face U keys → length cycles ≡ length keys → AreRounds R N keys cycles → AllPairs (λ c d. c ≢ d) cycles
cycles_apart R N face U keys cycles h e rounds i j d before within same =
    let first = rounds i d (omega (arith, before, within)) in
    let second = subst (IsRound R N (slice_index keys j)) (sym same) (rounds j d within) in
    let one = round_number R N (slice_index keys i) (slice_index keys j) (get_or cycles i d) h.known first second in
    let less = AllPairs-from_increasing keys h.keys_are.ascending i j 0 before (omega (arith, within, e)) in
    omega (arith, one, less)

-- ---- those behind the first
pub rest_at : {X : Type 0} (xs : List X) (k : ℕ) (d : X) → get_or (remove xs 0) k d ≡ get_or xs (suc k) d
rest_at [] k d = refl
rest_at (x ∷ xs) k d = refl

pub rest_long : {X : Type 0} (xs : List X) → 0 < length xs → length (remove xs 0) + 1 ≡ length xs
rest_long [] h = absurd (omega (arith, h))
rest_long (x ∷ xs) h = omega arith

pub rest_apart : {X : Type 0} (P : X → X → Type 0) (xs : List X) → AllPairs P xs → AllPairs P (remove xs 0)
rest_apart P [] h i j d before within = h i j d before within
rest_apart P (x ∷ xs) h i j d before within = h (suc i) (suc j) d (omega (arith, before)) (omega (arith, within))
