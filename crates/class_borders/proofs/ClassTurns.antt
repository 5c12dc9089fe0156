-- This file shows that as many segments come in at each point as go out, each with a class on its left alone.
use Rattle.std.proofs.Common.{◌≡◌, ◌⊎◌, ℕ, zero, suc, ◌<◌, ◌==◌, Bool, true, not, ◌&&◌, List, [], map, length}
use Rattle.std.proofs.Common.{refl, sym, ap, subst, ◌∙◌, arith, inl, inr}
use Rattle.grid_base.specs.Grid.{grid_side}
use Rattle.grid_base.specs.Point.{GridPoint, is_point}
use Rattle.grid_base.specs.Segment.{GridSegment, IsEnd}
use Rattle.grid_base.specs.Sides.{Left, Right}
use Rattle.grid_base.proofs.Orders.{is_point-same, is_point-itself}
use Rattle.grid_base.proofs.Ends.{same_or_not}
use Rattle.grid_base.proofs.Signs.{left_off, right_off}
use Rattle.grid_base.proofs.Booleans.{is_false}
use Rattle.linked_parts.specs.Parts.{IsLink, AreLinked}
use Rattle.linked_parts.proofs.LinkedNumbers.{linked_here, linked_by, linked_back}
use Rattle.plane_classes.specs.Shear.{sheared, sheared_point}
use Rattle.plane_cells.specs.Steps.{links}
use Rattle.plane_cells.specs.Walks.{None}
use Rattle.plane_cells.specs.Numbered.{numbered}
use Rattle.plane_cells.specs.Sheared.{sheared_number, AreOfRealm}
use Rattle.plane_cells.specs.ClassNumbers.{number_at, AreClassNumbers}
use Rattle.plane_cells.specs.declared.classes.SideClasses.{SideClasses}
use Rattle.plane_cells.proofs.ShearedRealm.{position, numbered_in, one_point, end_below}
use Rattle.plane_cells.proofs.ShearedSides.{one_class_by_labels, outer_by_labels}
use Rattle.plane_cells.proofs.Numbered.{all_among}
use Rattle.plane_cells.proofs.ColumnChanges.{Respects}
use Rattle.plane_cells.proofs.EveryEnd.{AreTests}
use Rattle.class_borders.specs.ClassLinks.{class_links, departures, arrivals}
use Rattle.class_borders.proofs.RightLabels.{IsLabel}
use Rattle.class_borders.proofs.EachSwept.{HasSweep, has_sweep}
use Rattle.class_borders.proofs.Tallies.{tally_below, tally_alike, tally_off}
use Rattle.class_borders.proofs.Rounds.{rises, falls, IsBalanced, balanced_end}
use Rattle.class_borders.proofs.LinkCounts.{links_counted}

-- ---- numbers of labels
-- the number of a label: 0 is that of the outer class, and i + 1 that over segment i
abbrev pub number_of : List SideClasses → ℕ → ℕ
number_of numbers zero = 0
number_of numbers (suc i) = number_at numbers i Left

over_outer : (B : List GridSegment) (N : List SideClasses) (h : HasSweep B) → AreClassNumbers B N → (j : ℕ) → j < length B
    → AreLinked (links h.steps) (suc j) 0 → number_at N j Left ≡ 0
over_outer B N h c j hj l =
    let q = c.some j Left hj left_off in
    (c.outer j Left q.0 q.1).1 (outer_by_labels grid_side B h.steps h.right j Left q.0 h.sweep hj (inl refl) q.1.beside l)

over_one : (B : List GridSegment) (N : List SideClasses) (h : HasSweep B) → AreClassNumbers B N → (i j : ℕ) → i < length B → j < length B
    → AreLinked (links h.steps) (suc i) (suc j) → number_at N i Left ≡ number_at N j Left
over_one B N h c i j hi hj l =
    let p = c.some i Left hi left_off in
    let q = c.some j Left hj left_off in
    (c.one_class i j Left Left p.0 q.0 p.1 q.1).1
    (one_class_by_labels grid_side B h.steps h.right i j Left Left p.0 q.0 h.sweep hi hj (inl refl) (inl refl) p.1.beside q.1.beside l)

-- linked labels have one number
one_number : (B : List GridSegment) (N : List SideClasses) (h : HasSweep B) → AreClassNumbers B N → (y z : ℕ) → IsLabel (length B) y
    → IsLabel (length B) z → AreLinked (links h.steps) y z → number_of N y ≡ number_of N z
one_number B N h c y z (inl e) (inl f) l = ap (number_of N) (e ∙ sym f)
one_number B N h c y z (inl e) (inr (j, hj, f)) l =
    ap (number_of N) e
    ∙ sym (ap (number_of N) f
    ∙ over_outer B N h c j hj (linked_back (links h.steps) 0 (suc j)
    (subst (λ (x : ℕ). AreLinked (links h.steps) 0 x) f (subst (λ (x : ℕ). AreLinked (links h.steps) x z) e l))))
one_number B N h c y z (inr (i, hi, e)) (inl f) l =
    ap (number_of N) e
    ∙ over_outer B N h c i hi (subst (λ (x : ℕ). AreLinked (links h.steps) (suc i) x) f
    (subst (λ (x : ℕ). AreLinked (links h.steps) x z) e l))
    ∙ sym (ap (number_of N) f)
one_number B N h c y z (inr (i, hi, e)) (inr (j, hj, f)) l =
    ap (number_of N) e
    ∙ over_one B N h c i j hi hj (subst (λ (x : ℕ). AreLinked (links h.steps) (suc i) x) f
    (subst (λ (x : ℕ). AreLinked (links h.steps) x z) e l))
    ∙ sym (ap (number_of N) f)

-- the label under segment i has the number of its right side
pub under_number : (B : List GridSegment) (N : List SideClasses) (h : HasSweep B) → AreClassNumbers B N → (i : ℕ) → i < length B
    → number_of N (h.right i) ≡ number_at N i Right
under_number B N h c i hi = by (h.right_labels i)
  where
    by : IsLabel (length B) (h.right i) → number_of N (h.right i) ≡ number_at N i Right
    by (inl e) =
        let q = c.some i Right hi right_off in
        ap (number_of N) e
        ∙ sym ((c.outer i Right q.0 q.1).1 (outer_by_labels grid_side B h.steps h.right i Right q.0 h.sweep hi (inr refl) q.1.beside
        (subst (λ (x : ℕ). AreLinked (links h.steps) (h.right i) x) e (linked_here (links h.steps) (h.right i)))))
    by (inr (j, hj, e)) =
        let p = c.some j Left hj left_off in
        let q = c.some i Right hi right_off in
        ap (number_of N) e
        ∙ (c.one_class j i Left Right p.0 q.0 p.1 q.1).1
        (one_class_by_labels grid_side B h.steps h.right j i Left Right p.0 q.0 h.sweep hj hi (inl refl) (inr refl) p.1.beside q.1.beside
        (subst (λ (x : ℕ). AreLinked (links h.steps) x (h.right i)) e (linked_here (links h.steps) (h.right i))))

-- the test of one class
abbrev pub is_class : List SideClasses → ℕ → ℕ → Bool
is_class N n y = number_of N y == n

pub respects : (B : List GridSegment) (N : List SideClasses) (n : ℕ) (h : HasSweep B) → AreClassNumbers B N
    → Respects (links h.steps) (is_class N n)
respects B N n h c y z l = ap (λ (m : ℕ). m == n) (one_number B N h c y z (labels l).0 (labels l).1 (linked_by (links h.steps) y z l))
  where
    labels : IsLink (links h.steps) y z → IsLabel (length B) y × IsLabel (length B) z
    labels (inl m) = h.link_labels (y, z) m
    labels (inr m) = let p = h.link_labels (z, y) m in (p.1, p.0)

-- ---- the tests of ends
is_true : (v p : GridPoint) → p ≡ v → is_point v p ≡ true
is_true v p e = subst (λ (x : GridPoint). is_point v x ≡ true) (sym e) (is_point-itself v)

tests_of : (B : List GridSegment) (v : GridPoint) (h : HasSweep B) → v.y < grid_side
    → AreTests (length B) (sheared_number B) (sheared_point grid_side v) (λ i. is_point v (numbered B i).a)
    (λ i. is_point v (numbered B i).b)
tests_of B v h low = record {
  at_a = λ i hi e. is_true v (numbered B i).a
      (one_point grid_side (numbered B i).a v (end_below grid_side B (numbered B i) (numbered B i).a h.sweep.realm (numbered_in B i hi)
      (inl refl)) low (ap (λ (p : GridPoint). p.x) e));
  off_a = λ i hi off. is_false _ (λ t. off
      (ap (λ (p : GridPoint). sheared_point grid_side p) (sym (is_point-same v (numbered B i).a t))));
  at_b = λ i hi e. is_true v (numbered B i).b
      (one_point grid_side (numbered B i).b v (end_below grid_side B (numbered B i) (numbered B i).b h.sweep.realm (numbered_in B i hi)
      (inr refl)) low (ap (λ (p : GridPoint). p.x) e));
  off_b = λ i hi off. is_false _ (λ t. off
      (ap (λ (p : GridPoint). sheared_point grid_side p) (sym (is_point-same v (numbered B i).b t))));
}

-- v is an end of one of the first k segments, or of none of them
some_end : (B : List GridSegment) (v : GridPoint) (k : ℕ)
    → ((i : ℕ) × (i < k) × IsEnd v (numbered B i)) ⊎ ((i : ℕ) → i < k → IsEnd v (numbered B i) → ⊥)
some_end B v zero = inr (λ i l e. absurd (omega (arith, l)))
some_end B v (suc k) = elim (some_end B v k) [
  | inl h ↦ inl (h.0, omega (arith, h.1), h.2)
  | inr none ↦ elim (same_or_not v (numbered B k).a) [
    | inl e ↦ inl (k, omega arith, inl e)
    | inr a ↦ elim (same_or_not v (numbered B k).b) [
      | inl e ↦ inl (k, omega arith, inr e)
      | inr b ↦ inr (λ i l e. last i (last_or i k l) none a b e)
    ]
  ]
]
  where
    last_or : (i k : ℕ) → i < suc k → (i ≡ k) ⊎ (i < k)
    last_or i k l = grind arith

    last : (i : ℕ) → (i ≡ k) ⊎ (i < k) → ((i : ℕ) → i < k → IsEnd v (numbered B i) → ⊥) → (v ≡ (numbered B k).a → ⊥)
        → (v ≡ (numbered B k).b → ⊥) → IsEnd v (numbered B i) → ⊥
    last i (inl e) none a b (inl h) = a (h ∙ ap (λ (j : ℕ). (numbered B j).a) e)
    last i (inl e) none a b (inr h) = b (h ∙ ap (λ (j : ℕ). (numbered B j).b) e)
    last i (inr l) none a b h = none i l h

-- ---- in and out
balanced : (B : List GridSegment) (N : List SideClasses) (n : ℕ) (v : GridPoint) (h : HasSweep B) → AreClassNumbers B N
    → IsBalanced (length B) (rises (is_class N n) h.right) (falls (is_class N n) h.right) (λ i. is_point v (numbered B i).a)
    (λ i. is_point v (numbered B i).b)
balanced B N n v h c = elim (some_end B v (length B)) [
  | inl e ↦
      balanced_end (map (sheared grid_side) B) (length B) (sheared_number B) (links h.steps) h.right (is_class N n)
      (λ i. is_point v (numbered B i).a) (λ i. is_point v (numbered B i).b) (sheared_point grid_side v) e.0
      (position grid_side B h.sweep.realm) (respects B N n h c)
      (tests_of B v h (end_below grid_side B (numbered B e.0) v h.sweep.realm (numbered_in B e.0 e.1) e.2)) e.1
      (sheared_end v (numbered B e.0) e.2) None [] h.steps h.sweep.walk (all_among h.steps (links h.steps) (λ y z m. m)) h.sweep.rights
      tt tt
  | inr none ↦
      let a = λ (d : ℕ → Bool). tally_off (length B) d (λ i. is_point v (numbered B i).a)
      (λ i hi. is_false _ (λ t. none i hi (inl (is_point-same v (numbered B i).a t)))) in
      let b = λ (d : ℕ → Bool). tally_off (length B) d (λ i. is_point v (numbered B i).b)
      (λ i hi. is_false _ (λ t. none i hi (inr (is_point-same v (numbered B i).b t)))) in
      omega (
        arith,
        a (rises (is_class N n) h.right),
        a (falls (is_class N n) h.right),
        b (rises (is_class N n) h.right),
        b
            (falls (is_class N n) h.right),
      )
]
  where
    sheared_end : (v : GridPoint) (s : GridSegment) → IsEnd v s → IsEnd (sheared_point grid_side v) (sheared grid_side s)
    sheared_end v s (inl e) = inl (ap (λ (p : GridPoint). sheared_point grid_side p) e)
    sheared_end v s (inr e) = inr (ap (λ (p : GridPoint). sheared_point grid_side p) e)

pub turns_whole : (B : List GridSegment) (N : List SideClasses) (n : ℕ) (v : GridPoint) → AreOfRealm B → AreClassNumbers B N
    → departures v (class_links n B N) ≡ arrivals v (class_links n B N)
turns_whole B N n v realm c = by (has_sweep B realm)
  where
    by : HasSweep B → departures v (class_links n B N) ≡ arrivals v (class_links n B N)
    by h =
        let out = links_counted n (λ l. is_point v l.from) B N c.one_each in
        let come = links_counted n (λ l. is_point v l.to) B N c.one_each in
        let all = balanced B N n v h c in
        omega (
          arith,
          out,
          come,
          all,
          up (λ i. is_point v (numbered B i).a),
          up (λ i. is_point v (numbered B i).b),
          down (λ i. is_point v (numbered B i).a),
          down (λ i. is_point v (numbered B i).b),
        )
      where
        under : (i : ℕ) → i < length B → is_class N n (h.right i) ≡ (number_at N i Right == n)
        under i hi = ap (λ (m : ℕ). m == n) (under_number B N h c i hi)

        up : (g : ℕ → Bool) → tally_below (λ j. rises (is_class N n) h.right j && g j) (length B)
            ≡ tally_below (λ j. ((number_at N j Left == n) && not (number_at N j Right == n)) && g j) (length B)
        up g = tally_alike _ _ (length B) (λ i hi. ap (λ (b : Bool). ((number_at N i Left == n) && not b) && g i) (under i hi))

        down : (g : ℕ → Bool) → tally_below (λ j. falls (is_class N n) h.right j && g j) (length B)
            ≡ tally_below (λ j. ((number_at N j Right == n) && not (number_at N j Left == n)) && g j) (length B)
        down g = tally_alike _ _ (length B) (λ i hi. ap (λ (b : Bool). (b && not (number_at N i Left == n)) && g i) (under i hi))
