-- This file shows where a segment belongs among those that begin with it.
use Rattle.std.proofs.Common.{◌≡◌, ◌⊎◌, ℕ, zero, suc, ◌+◌, ◌<◌, ◌≤◌, List, [], ◌∷◌, ◌++◌, map, length, take, drop, get_or, ℤ}
use Rattle.std.proofs.Common.{refl, sym, ap, subst, ◌∙◌, arith, inl, inr}
use Rattle.grid_base.specs.Grid.{grid_side}
use Rattle.grid_base.specs.Point.{GridPoint}
use Rattle.grid_base.specs.Segment.{GridSegment}
use Rattle.grid_base.proofs.Signs.{sign, natural_order}
use Rattle.grid_base.specs.Plane.{side_number_at}
use Rattle.plane_cells.specs.Order.{at_point}
use Rattle.plane_cells.specs.Steps.{In, Each, Pairs}
use Rattle.plane_classes.specs.Shear.{sheared_point, sheared}
use Rattle.plane_cells.specs.Numbered.{numbered}
use Rattle.plane_cells.specs.Sheared.{AreOfRealm}
use Rattle.std.specs.Prelude.{true, false}
use Rattle.plane_cells.specs.Scan.{IsLeftward, IsSortedAt, AreNumbers, IsInserted, IsFanTo, IsFan, IsNext, AreAscending, column_of}
use Rattle.std.proofs.lemmas.List.{take-append-drop}
use Rattle.std.proofs.lemmas.List.Edits.{length-insert}
use Rattle.grid_base.specs.Point.{is_point}
use Rattle.grid_base.proofs.Orders.{is_point-same, is_point-itself}
use Rattle.grid_base.proofs.Collinear.{same_segment}
use Rattle.plane_cells.proofs.Lists.{each_map, each_both, each_joined, in_left, in_right, in_cases}
use Rattle.plane_cells.proofs.Statuses.{pairs_joined, Crosswise}
use Rattle.plane_cells.proofs.Parts.{segment_read}
use Rattle.plane_cells.proofs.ShearedRealm.{position, realm_below, numbered_in, one_point}
use Rattle.plane_cells.proofs.Angles.{left_sheared, left_unsheared, angle_turned, angle_joined, not_on_one_line}

-- ---- angles of numbered segments
some : 0 < grid_side
some = omega arith

abbrev high : List GridSegment → ℕ → ℕ → ℤ
high B i j = side_number_at (sheared grid_side (numbered B i)) (at_point (sheared_point grid_side (numbered B j).b))

same_begin : (B : List GridSegment) (i : ℕ) (v : GridPoint) → (numbered B i).a ≡ v
    → (sheared grid_side (numbered B i)).a ≡ sheared_point grid_side v
same_begin B i v e = ap (λ (p : GridPoint). sheared_point grid_side p) e

pub once_sheared : (B : List GridSegment) (i j : ℕ) → AreOfRealm B → i < length B → j < length B
    → sheared_point grid_side (numbered B i).a ≡ sheared_point grid_side (numbered B j).a
    → sheared_point grid_side (numbered B i).b ≡ sheared_point grid_side (numbered B j).b → i ≡ j
once_sheared B i j r hi hj e f =
    let a = r.on_grid (numbered B i) (numbered_in B i hi) in
    let b = r.on_grid (numbered B j) (numbered_in B j hj) in
    r.once i j hi hj (same_segment (numbered B i) (numbered B j)
    (one_point grid_side (numbered B i).a (numbered B j).a a.row b.row (ap (λ (p : GridPoint). p.x) e))
    (one_point grid_side (numbered B i).b (numbered B j).b a.end_row b.end_row (ap (λ (p : GridPoint). p.x) f)))

-- where i isn't below j, j is below i
pub other_way : (B : List GridSegment) (i j : ℕ) (v : GridPoint) → AreOfRealm B → i < length B → j < length B → (i ≡ j → ⊥)
    → (numbered B i).a ≡ v → (numbered B j).a ≡ v → (IsLeftward B i j → ⊥) → IsLeftward B j i
other_way B i j v r hi hj d e f fails =
    let P = position grid_side B (realm_below B r) in
    elim (sign (high B i j)) [
      | inl h ↦ left_unsheared grid_side (numbered B j) (numbered B i).b some
          (angle_turned (sheared grid_side (numbered B i)) (sheared grid_side (numbered B j)) (sheared_point grid_side v) (same_begin B i v e)
          (same_begin B j v f) h)
      | inr o ↦ elim o [
        | inl h ↦ absurd (not_on_one_line (map (sheared grid_side) B) (length B) (λ k. sheared grid_side (numbered B k)) i j
            (sheared_point grid_side v) P
            (once_sheared B i j r hi hj) hi hj d (same_begin B i v e) (same_begin B j v f) h)
        | inr h ↦ absurd (fails (left_unsheared grid_side (numbered B i) (numbered B j).b some h))
      ]
    ]

pub further : (B : List GridSegment) (i j k : ℕ) (v : GridPoint) → AreOfRealm B → i < length B → j < length B → k < length B
    → (numbered B i).a ≡ v → (numbered B j).a ≡ v → (numbered B k).a ≡ v → IsLeftward B i j → IsLeftward B j k → IsLeftward B i k
further B i j k v r hi hj hk e f g h l =
    let P = position grid_side B (realm_below B r) in
    left_unsheared grid_side (numbered B i) (numbered B k).b some
    (angle_joined (sheared grid_side (numbered B i)) (sheared grid_side (numbered B j)) (sheared grid_side (numbered B k))
    (sheared_point grid_side v) (same_begin B i v e) (same_begin B j v f) (same_begin B k v g)
    (P.slanted i hi) (P.slanted j hj) (P.slanted k hk) (left_sheared grid_side (numbered B i) (numbered B j).b some h)
    (left_sheared grid_side (numbered B j) (numbered B k).b some l))

-- ---- the list with i in it
-- the list is sorted at the end of segment i
pub sorted_fan : (B : List GridSegment) (i : ℕ) (F : List ℕ) → AreOfRealm B → i < length B → AreNumbers B F
    → Each (λ j. (numbered B j).a ≡ (numbered B i).a) F → Pairs (IsLeftward B) F → IsSortedAt B (numbered B i).b F
sorted_fan B i [] r hi n b s = tt
sorted_fan B i (j ∷ F) r hi n b s = (first F n.1 b.1 s.0, sorted_fan B i F r hi n.1 b.1 s.1)
  where
    first : (G : List ℕ) → AreNumbers B G → Each (λ k. (numbered B k).a ≡ (numbered B i).a) G → Each (IsLeftward B j) G
        → Each (λ k. IsLeftward B k i → IsLeftward B j i) G
    first [] n' b' f = tt
    first (k ∷ G) n' b' f = (
      (λ g. further B j k i (numbered B i).a r n.0 n'.0 hi b.0 b'.0 refl f.0 g),
      first G n'.1 b'.1 f.1,
    )

-- i is below those that haven't its end on their left
below_rest : (B : List GridSegment) (i : ℕ) (F : List ℕ) → AreOfRealm B → i < length B → AreNumbers B F → Each (λ j. i ≡ j → ⊥) F
    → Each (λ j. (numbered B j).a ≡ (numbered B i).a) F → Each (λ j. IsLeftward B j i → ⊥) F → Each (IsLeftward B i) F
below_rest B i [] r hi n d b others = tt
below_rest B i (j ∷ F) r hi n d b others = (
  other_way B j i (numbered B i).a r n.0 hi (λ e. d.0 (sym e)) b.0 refl others.0,
  below_rest B i F r hi n.1 d.1 b.1 others.1,
)

pairs_drop : (R : ℕ → ℕ → Type 0) (l : List ℕ) (m : ℕ) → Pairs R l → Pairs R (drop m l)
pairs_drop R [] zero h = tt
pairs_drop R [] (suc m) h = tt
pairs_drop R (i ∷ l) zero h = h
pairs_drop R (i ∷ l) (suc m) h = pairs_drop R l m h.1

each_take : (P : ℕ → Type 0) (l : List ℕ) (m : ℕ) → Each P l → Each P (take m l)
each_take P [] zero h = tt
each_take P [] (suc m) h = tt
each_take P (i ∷ l) zero h = tt
each_take P (i ∷ l) (suc m) h = (h.0, each_take P l m h.1)

each_drop : (P : ℕ → Type 0) (l : List ℕ) (m : ℕ) → Each P l → Each P (drop m l)
each_drop P [] zero h = tt
each_drop P [] (suc m) h = tt
each_drop P (i ∷ l) zero h = h
each_drop P (i ∷ l) (suc m) h = each_drop P l m h.1

pairs_take : (R : ℕ → ℕ → Type 0) (l : List ℕ) (m : ℕ) → Pairs R l → Pairs R (take m l)
pairs_take R [] zero h = tt
pairs_take R [] (suc m) h = tt
pairs_take R (i ∷ l) zero h = tt
pairs_take R (i ∷ l) (suc m) h = (each_take (R i) l m h.0, pairs_take R l m h.1)

cross_parts : (R : ℕ → ℕ → Type 0) (l : List ℕ) (m : ℕ) → Pairs R l → Crosswise R (take m l) (drop m l)
cross_parts R [] zero h = tt
cross_parts R [] (suc m) h = tt
cross_parts R (i ∷ l) zero h = tt
cross_parts R (i ∷ l) (suc m) h = (each_drop (R i) l m h.0, cross_parts R l m h.1)

pub inserted_leftward : (B : List GridSegment) (i : ℕ) (F : List ℕ) (place : ℕ) → AreOfRealm B → i < length B → AreNumbers B F
    → Each (λ j. i ≡ j → ⊥) F → Each (λ j. (numbered B j).a ≡ (numbered B i).a) F → Pairs (IsLeftward B) F
    → Each (λ j. IsLeftward B j i) (take place F) → Each (λ j. IsLeftward B j i → ⊥) (drop place F)
    → Pairs (IsLeftward B) (take place F ++ (i ∷ drop place F))
inserted_leftward B i F place r hi n d b s below others =
    pairs_joined (IsLeftward B) (take place F) (i ∷ drop place F) (pairs_take (IsLeftward B) F place s) (
      below_rest B i (drop place F) r hi (each_drop (λ j. j < length B) F place n) (each_drop (λ j. i ≡ j → ⊥) F place d)
          (each_drop (λ j. (numbered B j).a ≡ (numbered B i).a) F place b) others,
      pairs_drop (IsLeftward B) F place s,
    )
    (each_both (λ j. IsLeftward B j i) (λ j. Each (IsLeftward B j) (drop place F)) (λ j. Each (IsLeftward B j) (i ∷ drop place F))
    (take place F) (λ j a c. (a, c)) below (cross_parts (IsLeftward B) F place s))

-- ---- one more segment begins at v
each_inserted : (P : ℕ → Type 0) (i : ℕ) (F G : List ℕ) → IsInserted i F G → Each P F → P i → Each P G
each_inserted P i F G h a b = subst (Each P) (sym h.2)
    (each_joined P (take h.0 F) (i ∷ drop h.0 F) (each_take P F h.0 a) (b, each_drop P F h.0 a))

in_inserted : (i j : ℕ) (F G : List ℕ) → IsInserted i F G → (j ≡ i) ⊎ In j F → In j G
in_inserted i j F G h (inl e) = subst (In j) (sym h.2) (in_right j (take h.0 F) (i ∷ drop h.0 F) (inl e))
in_inserted i j F G h (inr m) = subst (In j) (sym h.2)
    (elim (in_cases j (take h.0 F) (drop h.0 F) (subst (In j) (sym (take-append-drop h.0 F)) m)) [
      | inl a ↦ in_left j (take h.0 F) (i ∷ drop h.0 F) a
      | inr b ↦ in_right j (take h.0 F) (i ∷ drop h.0 F) (inr b)
    ])

count_inserted : (i : ℕ) (F G : List ℕ) → IsInserted i F G → length G ≡ length F + 1
count_inserted i F G h = ap (λ (l : List ℕ). length l) h.2 ∙ length-insert F h.0 i h.1

-- the segment that was read begins at v
begins_at : (B : List GridSegment) (v a : GridPoint) (i : ℕ) (s : GridSegment) → i < length B → s ≡ get_or B i s → a ≡ s.a
    → true ≡ is_point a v → (numbered B i).a ≡ v
begins_at B v a i s h e f t = ap (λ (u : GridSegment). u.a) (segment_read B i s h e) ∙ sym f ∙ is_point-same a v (sym t)

pub begins_alike : (B : List GridSegment) (v a : GridPoint) (i : ℕ) (s : GridSegment) (F : List ℕ) → i < length B → s ≡ get_or B i s
    → a ≡ s.a → true ≡ is_point a v → Each (λ j. (numbered B j).a ≡ v) F → Each (λ j. (numbered B j).a ≡ (numbered B i).a) F
begins_alike B v a i s F h e f t b = each_map (λ j. (numbered B j).a ≡ v) (λ j. (numbered B j).a ≡ (numbered B i).a) F
    (λ j g. g ∙ sym (begins_at B v a i s h e f t)) b

pub fan_more : (B : List GridSegment) (v a : GridPoint) (next i : ℕ) (s : GridSegment) (F G : List ℕ) → IsFanTo B v next i F → i < length B
    → s ≡ get_or B i s → a ≡ s.a → true ≡ is_point a v → IsInserted i F G → Pairs (IsLeftward B) G → IsFanTo B v next (i + 1) G
fan_more B v a next i s F G h l e f t ins g = record {
  order = omega (arith, h.order);
  within = omega (arith, l);
  count = omega (arith, h.count, count_inserted i F G ins);
  numbers = each_inserted (λ j. (next ≤ j) × (j < i + 1)) i F G ins
      (each_map (λ j. (next ≤ j) × (j < i)) (λ j. (next ≤ j) × (j < i + 1)) F (λ j n. (n.0, omega (arith, n.1))) h.numbers)
      (h.order, omega arith);
  all = λ j from to. in_inserted i j F G ins (last j from to);
  begins = each_inserted (λ j. (numbered B j).a ≡ v) i F G ins h.begins (begins_at B v a i s l e f t);
  leftward = g;
}
  where
    last : (j : ℕ) → next ≤ j → j < i + 1 → (j ≡ i) ⊎ In j F
    last j from to = elim (one_of j i to) [ inl e ↦ inl e | inr k ↦ inr (h.all j from k) ]
      where
        one_of : (m k : ℕ) → m < k + 1 → (m ≡ k) ⊎ (m < k)
        one_of m k l = grind arith

-- ---- no more begin there
pub fan_done : (B : List GridSegment) (v : GridPoint) (next i : ℕ) (F : List ℕ) → AreOfRealm B → AreAscending B → IsNext B v next
    → v.y < grid_side → IsFanTo B v next i F → (i < length B → (numbered B i).a ≡ v → ⊥) → IsFan B v next F
fan_done B v next i F r asc n low h stop = record {
  fan = subst (λ (j : ℕ). IsFanTo B v next j F) (sym h.count) h;
  all = λ j l e. elim (parts j) [
    | inl k ↦ absurd (early j (n.earlier j k) e)
    | inr o ↦ elim o [ inl k ↦ h.all j k.0 k.1 | inr k ↦ absurd (not_equal j (behind j k l) e) ]
  ];
  behind = λ j k l. behind j (omega (arith, k, h.count)) l;
}
  where
    parts : (j : ℕ) → (j < next) ⊎ (((next ≤ j) × (j < i)) ⊎ (i ≤ j))
    parts j = elim (natural_order next j) [ inl a ↦ elim (natural_order i j) [ inl b ↦ inr (inr b) | inr b ↦ inr (inl (a, b)) ] | inr a ↦ inl a ]

    early : (j : ℕ) → column_of (numbered B j).a < column_of v → (numbered B j).a ≡ v → ⊥
    early j a e = less_self _ _ (ap column_of e) a
      where
        less_self : (x y : ℕ) → x ≡ y → x < y → ⊥
        less_self x y e a = omega (arith, e, a)

    first : i < length B → column_of v < column_of (numbered B i).a
    first l = elim (less_or _ _ (n.later i h.order l)) [
      | inl a ↦ a
      | inr e ↦ absurd
          (stop l (sym (one_point grid_side v (numbered B i).a low (r.on_grid (numbered B i) (numbered_in B i l)).row e)))
    ]
      where
        less_or : (x y : ℕ) → x ≤ y → (x < y) ⊎ (x ≡ y)
        less_or x y h = grind arith

    behind : (j : ℕ) → i ≤ j → j < length B → column_of v < column_of (numbered B j).a
    behind j k l = let a = first (omega (arith, k, l)) in let b = asc i j k l in omega (arith, a, b)

    not_equal : (j : ℕ) → column_of v < column_of (numbered B j).a → (numbered B j).a ≡ v → ⊥
    not_equal j a e = omega (arith, a, ap column_of e)

pub doesnt_begin : (B : List GridSegment) (v a : GridPoint) (i : ℕ) (s : GridSegment) → i < length B → s ≡ get_or B i s → a ≡ s.a
    → false ≡ is_point a v → (numbered B i).a ≡ v → ⊥
doesnt_begin B v a i s h e f t g =
    let same : a ≡ v = f ∙ ap (λ (u : GridSegment). u.a) (sym (segment_read B i s h e)) ∙ g in
    not_both (t ∙ ap (λ (u : GridPoint). is_point u v) same ∙ is_point-itself v)
  where
    not_both : false ≡ true → ⊥
    not_both e = cc
