-- This file shows that the segments of which just one side is outer are the border of all that isn't outer.
use Rattle.std.proofs.Common.{◌≡◌, ◌⊎◌, ◌↔◌, ℕ, zero, suc, ◌+◌, ◌*◌, ◌%◌, ◌<◌, ◌≤◌, ◌==◌, Bool, true, false, not, ◌&&◌, cond}
use Rattle.std.proofs.Common.{if◌then◌else◌, List, [], map, length, slice_index, slice_index_or, count_by, refl, sym, ap, subst, ◌∙◌}
use Rattle.std.proofs.Common.{arith, inl, inr}
use Rattle.std.proofs.lemmas.List.Elements.{All-contains}
use Rattle.grid_base.specs.Grid.{grid_side}
use Rattle.grid_base.specs.Point.{GridPoint, is_point}
use Rattle.grid_base.specs.Segment.{GridSegment, IsEnd}
use Rattle.grid_base.specs.Plane.{Place, IsFree}
use Rattle.grid_base.specs.Odd.{Odd}
use Rattle.grid_base.specs.Border.{is_end, IsEvenBorder}
use Rattle.grid_base.proofs.Orders.{is_point-same, is_point-itself}
use Rattle.grid_base.proofs.Ends.{same_or_not}
use Rattle.grid_base.proofs.Booleans.{is_false}
use Rattle.plane_classes.specs.Classes.{IsOuter}
use Rattle.plane_classes.specs.Shear.{sheared_point, sheared, sheared_place}
use Rattle.plane_classes.proofs.Parities.{xor, par, xor_middle, and_none, ends_with, HasPairedEnds, par_same}
use Rattle.plane_classes.proofs.Counts.{halves, end_is_odd, odd_is, is_odd}
use Rattle.plane_classes.proofs.OneParity.{each_of}
use Rattle.plane_classes.proofs.OverTests.{is_over}
use Rattle.plane_classes.proofs.FewerSegments.{free_of_part}
use Rattle.plane_classes.proofs.Shears.{free_sheared}
use Rattle.plane_classes.proofs.ShearedParity.{par_map, parity_sheared}
use Rattle.linked_parts.specs.Parts.{Links, IsLink, AreLinked, AreBelow}
use Rattle.linked_parts.proofs.LinkedNumbers.{linked_here, linked_by}
use Rattle.plane_cells.specs.Steps.{links}
use Rattle.plane_cells.specs.Walks.{None}
use Rattle.plane_cells.specs.Numbered.{numbered}
use Rattle.plane_cells.specs.Rims.{is_rim, rims, IsInterior}
use Rattle.plane_cells.specs.OtherNumbers.{HasNumber, HasNumbers}
use Rattle.plane_cells.specs.declared.classes.SideClasses.{SideClasses}
use Rattle.plane_cells.proofs.ShearedRealm.{IsRealmBelow, position, realm_below, numbered_in, one_point, end_below}
use Rattle.plane_cells.proofs.Numbered.{IsSweep, all_among, outer_by_label, label_by_outer}
use Rattle.plane_cells.proofs.ShearedSides.{below_of, outer_sheared, outer_unsheared}
use Rattle.plane_cells.proofs.ShearedSides as shear
use Rattle.plane_cells.proofs.Numbering.{IsLabelled, AreLinkedLabels, linked_labels, sweep_of}
use Rattle.plane_cells.proofs.ColumnChanges.{Respects, divides}
use Rattle.plane_cells.proofs.StatusCounts.{par_below, both, none_below, below_alike}
use Rattle.plane_cells.proofs.ColumnParity.{HasParity, parity_of_place}
use Rattle.plane_cells.proofs.EveryEnd.{AreTests, even_end}
use Rattle.plane_cells.proofs.RimCounts.{rim_at, rims_counted, rims_part}

-- ---- tests and parities
below_split : (d g h : ℕ → Bool) (n : ℕ)
    → par_below (λ i. d i && xor (g i) (h i)) n ≡ xor (par_below (λ i. d i && g i) n) (par_below (λ i. d i && h i) n)
below_split d g h zero = refl
below_split d g h (suc n) =
    both _ _ _ _ (parts (d n) (g n) (h n)) (below_split d g h n)
    ∙ xor_middle (d n && g n) (d n && h n) (par_below (λ i. d i && g i) n) (par_below (λ i. d i && h i) n)
  where
    parts : (a b c : Bool) → (a && xor b c) ≡ xor (a && b) (a && c)
    parts true b c = refl
    parts false b c = refl

-- ---- what the labels tell: whether the least label is 0
zero_tells : (n : ℕ) → n ≡ 0 → (n == 0) ≡ true
zero_tells n h = grind arith

tells_zero : (n : ℕ) → (n == 0) ≡ true → n ≡ 0
tells_zero n h = grind arith

link_below : (n : ℕ) (L : Links) (x y : ℕ) → AreBelow n L → IsLink L x y → (x < n) × (y < n)
link_below n L x y b (inl there) = All-contains (λ l. (l.0 < n) × (l.1 < n)) L (x, y) b there
link_below n L x y b (inr there) = let p = All-contains (λ l. (l.0 < n) × (l.1 < n)) L (y, x) b there in (p.1, p.0)

low : (m n : ℕ) → m < n + 1 → m ≤ n
low m n h = omega (arith, h)

rim_is_xor : (a b : Bool) → (if a then not b else b) ≡ xor a b
rim_is_xor true true = refl
rim_is_xor true false = refl
rim_is_xor false b = refl

rim_divides : (labels right : List ℕ) (i : ℕ) (n : SideClasses) → HasNumber labels right i n
    → is_rim n ≡ divides (λ x. slice_index labels x == 0) (λ j. slice_index right j) i
rim_divides labels right i n h =
    rim_is_xor (n.left == 0) (n.right == 0)
    ∙ both (n.left == 0) (n.right == 0) (slice_index labels (suc i) == 0) (slice_index labels (slice_index right i) == 0)
    (ap (λ (m : ℕ). m == 0) (h.over ∙ ap (λ (x : ℕ). slice_index labels x) next)) (ap (λ (m : ℕ). m == 0) h.under)
  where
    next : i + 1 ≡ suc i
    next = omega arith

-- ---- an even number of rims ends at each point
some_end : (B : List GridSegment) (v : GridPoint) (n : ℕ)
    → ((i : ℕ) × (i < n) × IsEnd v (numbered B i)) ⊎ ((i : ℕ) → i < n → IsEnd v (numbered B i) → ⊥)
some_end B v zero = inr (λ i l e. absurd (omega (arith, l)))
some_end B v (suc n) = elim (some_end B v n) [
  | inl h ↦ inl (h.0, omega (arith, h.1), h.2)
  | inr none ↦ elim (same_or_not v (numbered B n).a) [
    | inl e ↦ inl (n, omega arith, inl e)
    | inr a ↦ elim (same_or_not v (numbered B n).b) [
      | inl e ↦ inl (n, omega arith, inr e)
      | inr b ↦ inr (λ i l e. last i (last_or i n l) none a b e)
    ]
  ]
]
  where
    last_or : (i n : ℕ) → i < suc n → (i ≡ n) ⊎ (i < n)
    last_or i n l = grind arith

    last : (i : ℕ) → (i ≡ n) ⊎ (i < n) → ((i : ℕ) → i < n → IsEnd v (numbered B i) → ⊥) → (v ≡ (numbered B n).a → ⊥)
        → (v ≡ (numbered B n).b → ⊥) → IsEnd v (numbered B i) → ⊥
    last i (inl e) none a b (inl h) = a (h ∙ ap (λ (k : ℕ). (numbered B k).a) e)
    last i (inl e) none a b (inr h) = b (h ∙ ap (λ (k : ℕ). (numbered B k).b) e)
    last i (inr l) none a b h = none i l h

tests_of : (n : ℕ) (B : List GridSegment) (v : GridPoint) → IsRealmBelow n B → v.y < n
    → AreTests (length B) (λ i. sheared n (numbered B i)) (sheared_point n v) (λ i. is_point v (numbered B i).a) (λ i. is_point v
    (numbered B i).b)
tests_of n B v r low = record {
  at_a = λ i hi e. same _
      (one_point n (numbered B i).a v (end_below n B (numbered B i) (numbered B i).a r (numbered_in B i hi) (inl refl)) low
      (ap (λ (p : GridPoint). p.x) e));
  off_a = λ i hi off. is_false _ (λ t. off (ap (λ (p : GridPoint). sheared_point n p) (sym (is_point-same v (numbered B i).a t))));
  at_b = λ i hi e. same _
      (one_point n (numbered B i).b v (end_below n B (numbered B i) (numbered B i).b r (numbered_in B i hi) (inr refl)) low
      (ap (λ (p : GridPoint). p.x) e));
  off_b = λ i hi off. is_false _ (λ t. off (ap (λ (p : GridPoint). sheared_point n p) (sym (is_point-same v (numbered B i).b t))));
}
  where
    same : (p : GridPoint) → p ≡ v → is_point v p ≡ true
    same p e = subst (λ (x : GridPoint). is_point v x ≡ true) (sym e) (is_point-itself v)

even_of : (b : Bool) (n k : ℕ) → n ≡ 2 * k + cond b 1 0 → b ≡ false → n % 2 ≡ 0
even_of true n k h e = cc
even_of false n k h e = omega arith

pub interior_of : (B : List GridSegment) (L : Links) (right labels : List ℕ) (numbers : List SideClasses) (T : List GridSegment) (Y : List
    ℕ)
    → IsLabelled B L right labels T Y → HasNumbers labels right numbers → IsInterior B (rims B numbers)
interior_of B L right labels numbers T Y h have = record { even = even; places = places }
  where
    n : ℕ
    n = grid_side

    C : List GridSegment
    C = rims B numbers

    f : ℕ → Bool
    f x = slice_index labels x == 0

    seg : ℕ → GridSegment
    seg i = sheared n (numbered B i)

    r : IsRealmBelow n B
    r = realm_below B h.realm

    k : AreLinkedLabels (length B) (links h.done.steps) labels
    k = linked_labels (length B) L (links h.done.steps) labels h.done.links h.least

    respects : Respects (links h.done.steps) f
    respects x y l =
        let b = link_below (length B + 1) (links h.done.steps) x y (subst (AreBelow (length B + 1)) h.done.links h.done.labels) l in
        ap (λ (m : ℕ). m == 0) (k.same x y (low x (length B) b.0) (low y (length B) b.1) (linked_by (links h.done.steps) x y l))

    d : ℕ → Bool
    d i = divides f (λ j. slice_index right j) i

    rim : (i : ℕ) → i < length B → rim_at numbers i ≡ d i
    rim i hi = rim_divides labels right i (slice_index_or numbers i (record { left = 0; right = 0 }))
        (have.each i (omega (arith, hi, h.done.places)))

    counted : (g : GridSegment → Bool) → par g C ≡ par_below (λ i. d i && g (numbered B i)) (length B)
    counted g =
        rims_counted g B numbers (have.one_each ∙ h.done.places)
        ∙ below_alike (λ i. rim_at numbers i && g (numbered B i)) (λ i. d i && g (numbered B i)) (length B)
        (λ i hi. ap (λ (b : Bool). b && g (numbered B i)) (rim i hi))

    paired : HasPairedEnds C
    paired v =
        counted (ends_with (is_point v))
        ∙ below_split d (λ i. is_point v (numbered B i).a) (λ i. is_point v (numbered B i).b) (length B)
        ∙ elim (some_end B v (length B)) [
          | inl e ↦
              even_end (map (sheared n) B) (length B) seg (links h.done.steps) (λ j. slice_index right j) f
              (λ i. is_point v (numbered B i).a) (λ i. is_point v (numbered B i).b) (sheared_point n v) e.0 (position n B r) respects
              (tests_of n B v r (end_below n B (numbered B e.0) v r (numbered_in B e.0 e.1) e.2)) e.1 (sheared_end v (numbered B e.0) e.2)
              None [] h.done.steps h.done.walk (all_among h.done.steps (links h.done.steps) (λ y z m. m)) h.done.rights tt tt
          | inr none ↦ both (par_below (λ i. d i && is_point v (numbered B i).a) (length B))
              (par_below (λ i. d i && is_point v (numbered B i).b) (length B)) false false
              (none_below (length B) (λ i. d i && is_point v (numbered B i).a) (λ i hi. ap (λ (b : Bool). d i && b)
              (is_false (is_point v (numbered B i).a) (λ t. none i hi (inl (is_point-same v (numbered B i).a t)))) ∙ and_none (d i)))
              (none_below (length B) (λ i. d i && is_point v (numbered B i).b) (λ i hi. ap (λ (b : Bool). d i && b)
              (is_false (is_point v (numbered B i).b) (λ t. none i hi (inr (is_point-same v (numbered B i).b t)))) ∙ and_none (d i)))
        ]
      where
        sheared_end : (v : GridPoint) (s : GridSegment) → IsEnd v s → IsEnd (sheared_point n v) (sheared n s)
        sheared_end v s (inl e) = inl (ap (λ (p : GridPoint). sheared_point n p) e)
        sheared_end v s (inr e) = inr (ap (λ (p : GridPoint). sheared_point n p) e)

    even : IsEvenBorder C
    even v =
        let e = halves (is_end v) C in
        even_of (par (is_end v) C) (count_by (is_end v) C) e.0 e.1 (par_same (is_end v) (ends_with (is_point v)) C
        (each_of (λ s. is_end v s ≡ ends_with (is_point v) s) C (λ s m. end_is_odd v s (r.order s (rims_part B numbers s m)))) ∙ paired v)

    places : (q : Place) → IsFree B q → Odd C q ↔ (IsOuter B q → ⊥)
    places q free = (
      (λ odd outer. apart (sym (odd_is C q odd) ∙ parity)
          (zero_tells (slice_index labels hp.label) (zero_of (label_by_outer (map (sheared n) B) (length B) seg (n * n)
          h.done.steps (λ j. slice_index right j) Q hp.label sweep (outer_sheared n B q r.order r.some outer) hp.has)))),
      λ shut. is_odd C q (parity ∙ inner (is_false (f hp.label) (λ t. shut (outer_unsheared n B q r free
          (outer_by_label (map (sheared n) B) (length B) seg (n * n) h.done.steps (λ j. slice_index right j) Q hp.label sweep free_Q hp.has
          (k.linked hp.label 0 hp.bounded (omega arith) (tells_zero (slice_index labels hp.label) t ∙ sym k.zero))))))),
    )
      where
        Q : Place
        Q = sheared_place n q

        sweep : IsSweep (map (sheared n) B) (length B) seg (n * n) h.done.steps (λ j. slice_index right j)
        sweep = shear.sweep_of n B h.done.steps (λ j. slice_index right j) (sweep_of B L right h.realm T Y h.done)

        free_Q : IsFree (map (sheared n) B) Q
        free_Q = free_sheared n B q r.order r.some free

        hp : HasParity (length B) seg f (λ j. slice_index right j) [] h.done.steps Q
        hp = parity_of_place (map (sheared n) B) (length B) seg (links h.done.steps) (λ j. slice_index right j) f Q (position n B r) free_Q
            respects None [] h.done.steps h.done.walk (all_among h.done.steps (links h.done.steps) (λ y z m. m)) h.done.rights tt tt
            (linked_here (links h.done.steps) 0)

        parity : par (is_over q) C ≡ xor (f hp.label) true
        parity =
            parity_sheared n C q r.some (λ s m. r.order s (rims_part B numbers s m))
            (λ s m. below_of n B r s (rims_part B numbers s m)) paired
            (free_of_part C B q (rims_part B numbers) free)
            ∙ par_map n (is_over Q) C ∙ counted (λ s. is_over Q (sheared n s)) ∙ hp.parity
            ∙ ap (λ (b : Bool). xor (f hp.label) b) (zero_tells (slice_index labels 0) k.zero)

        zero_of : AreLinked (links h.done.steps) hp.label 0 → slice_index labels hp.label ≡ 0
        zero_of linked = k.same hp.label 0 hp.bounded (omega arith) linked ∙ k.zero

        inner : f hp.label ≡ false → xor (f hp.label) true ≡ true
        inner e = rw e refl

        not_two : true ≡ false → ⊥
        not_two e = cc

        apart : true ≡ xor (f hp.label) true → f hp.label ≡ true → ⊥
        apart e t = not_two (e ∙ ap (λ (b : Bool). xor b true) t)
