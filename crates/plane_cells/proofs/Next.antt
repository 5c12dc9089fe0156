-- This file shows that one step of the sweep leads from a right status to the next one.
use Rattle.std.proofs.Common.{◌≡◌, ◌⊎◌, ℕ, ◌<◌, ◌≤◌, List, [], ◌∷◌, ◌++◌, pos, ◌<ℤ◌, refl, sym, ap, subst, arith, inl, inr}
use Rattle.std.proofs.lemmas.Int.{ints}
use Rattle.grid_base.specs.Point.{GridPoint}
use Rattle.grid_base.specs.Segment.{GridSegment}
use Rattle.grid_base.specs.Segment.{IsEnd}
use Rattle.grid_base.specs.Plane.{side_number_at, Spans}
use Rattle.grid_base.proofs.Signs.{above_not_zero, below_not_zero}
use Rattle.plane_classes.proofs.Heights.{at_b}
use Rattle.plane_cells.specs.Steps.{Step, before, after, In, Each, Pairs}
use Rattle.plane_cells.proofs.AlongSegments.{IsOffInside, zero_begin}
use Rattle.plane_cells.proofs.Lower.{at_point, lower_by_left, lower_by_right, lower_by_angle}
use Rattle.plane_cells.proofs.Lists.{each_map, each_at, each_both, each_joined, each_left, each_right, in_left, in_right, in_cases}
use Rattle.plane_cells.proofs.Labels.{IsFurtherDown}
use Rattle.plane_cells.proofs.Walks.{Position, Bound, None, Wall, IfWall, HasWall, IsAcross}
pub use Rattle.plane_cells.specs.Walks.{IsHere}
pub use Rattle.plane_cells.proofs.Walks.{IsNextVertex, IsTurn}
use Rattle.plane_cells.proofs.Beside.{alone}
use Rattle.plane_cells.proofs.Statuses.{pairs_joined, pairs_left, pairs_right, pairs_across, slab_status}

-- ---- what a step must have for it
zero_at_a : (s : GridSegment) (v : GridPoint) → s.a ≡ v → side_number_at s (at_point v) ≡ pos 0
zero_at_a s v e = subst (λ (u : GridPoint). side_number_at s (at_point u) ≡ pos 0) e (zero_begin s)

zero_at_b : (s : GridSegment) (v : GridPoint) → s.b ≡ v → side_number_at s (at_point v) ≡ pos 0
zero_at_b s v e = subst (λ (u : GridPoint). side_number_at s (at_point u) ≡ pos 0) e
    (at_b s (at_point s.b) (omega (arith, ints)) (omega (arith, ints)))

off_inside : (B : List GridSegment) (n : ℕ) (seg : ℕ → GridSegment) (i j : ℕ) → Position B n seg → i < n → j < n → (i ≡ j → ⊥)
    → IsOffInside (seg i) (seg j)
off_inside B n seg i j P hi hj d c inside held = alone B n seg j i c P hj hi d inside held

at_begin_spans : (s : GridSegment) (v : GridPoint) → s.a.x ≤ v.x → v.x ≤ s.b.x → Spans s (at_point v)
at_begin_spans s v h k = record { from = omega (arith, ints, h); to = omega (arith, ints, k) }

-- a segment that passes below the vertex, or above it, spans it
spans_vertex : (n : ℕ) (seg : ℕ → GridSegment) (lo : Bound) (v : GridPoint) (i : ℕ) → IfWall (λ c. c < v.x) lo
    → IsAcross n seg lo (Wall v.x) i → Spans (seg i) (at_point v)
spans_vertex n seg None v i l a = absurd a.from
spans_vertex n seg (Wall c) v i l a = let m : c < v.x = l in at_begin_spans (seg i) v (omega (arith, a.from, m)) a.to

lower_new : (B : List GridSegment) (n : ℕ) (seg : ℕ → GridSegment) (v : GridPoint) (i j : ℕ) → Position B n seg → i < n → j < n
    → Spans (seg i) (at_point v) → pos 0 <ℤ side_number_at (seg i) (at_point v) → (seg j).a ≡ v → IsFurtherDown seg i j
lower_new B n seg v i j P hi hj s h e = (
  apart,
  lower_by_left (seg i) (seg j) (P.slanted i hi) (P.slanted j hj) (off_inside B n seg i j P hi hj apart)
      (subst (λ (u : GridPoint). Spans (seg i) (at_point u)) (sym e) s)
      (subst (λ (u : GridPoint). pos 0 <ℤ side_number_at (seg i) (at_point u)) (sym e) h),
)
  where
    apart : i ≡ j → ⊥
    apart f = above_not_zero _ h (zero_at_a (seg i) v (subst (λ (k : ℕ). (seg k).a ≡ v) (sym f) e))

lower_old : (B : List GridSegment) (n : ℕ) (seg : ℕ → GridSegment) (v : GridPoint) (i j : ℕ) → Position B n seg → i < n → j < n
    → Spans (seg j) (at_point v) → side_number_at (seg j) (at_point v) <ℤ pos 0 → (seg i).a ≡ v → IsFurtherDown seg i j
lower_old B n seg v i j P hi hj s h e = (
  apart,
  lower_by_right (seg j) (seg i) (P.slanted j hj) (P.slanted i hi) (off_inside B n seg j i P hj hi (λ f. apart (sym f)))
      (subst (λ (u : GridPoint). Spans (seg j) (at_point u)) (sym e) s)
      (subst (λ (u : GridPoint). side_number_at (seg j) (at_point u) <ℤ pos 0) (sym e) h),
)
  where
    apart : i ≡ j → ⊥
    apart f = below_not_zero _ h (zero_at_a (seg j) v (subst (λ (k : ℕ). (seg k).a ≡ v) f e))

lower_fan : (B : List GridSegment) (n : ℕ) (seg : ℕ → GridSegment) (v : GridPoint) (i j : ℕ) → Position B n seg → i < n → j < n
    → (seg i).a ≡ v → (seg j).a ≡ v → pos 0 <ℤ side_number_at (seg i) (at_point (seg j).b) → IsFurtherDown seg i j
lower_fan B n seg v i j P hi hj e f h = (
  λ g. above_not_zero _ h (zero_at_b (seg i) (seg j).b (ap (λ (k : ℕ). (seg k).b) g)),
  lower_by_angle (seg i) (seg j) v e f (P.slanted i hi)
      (P.slanted j hj) h,
)

-- the pairs of those that begin
each_four : (P Q R S : ℕ → Type 0) (A : List ℕ) → ((i : ℕ) → P i → Q i → R i → S i) → Each P A → Each Q A → Each R A → Each S A
each_four P Q R S [] f h k l = tt
each_four P Q R S (i ∷ A) f h k l = (f i h.0 k.0 l.0, each_four P Q R S A f h.1 k.1 l.1)

fan_sorted : (B : List GridSegment) (n : ℕ) (seg : ℕ → GridSegment) (v : GridPoint) (N : List ℕ) → Position B n seg → Each (λ i. i < n) N
    → Each (λ i. (seg i).a ≡ v) N → Pairs (λ i j. pos 0 <ℤ side_number_at (seg i) (at_point (seg j).b)) N → Pairs (IsFurtherDown seg) N
fan_sorted B n seg v [] P h e f = tt
fan_sorted B n seg v (i ∷ N) P h e f = (
  each_four (λ j. j < n) (λ j. (seg j).a ≡ v) (λ j. pos 0 <ℤ side_number_at (seg i) (at_point (seg j).b)) (IsFurtherDown seg i) N
      (λ j a b c. lower_fan B n seg v i j P h.0 a e.0 b c) h.1 e.1 f.0,
  fan_sorted B n seg v N P h.1 e.1 f.1,
)

-- ---- the three parts of the status behind the vertex
pub record IsPart (n : ℕ) (seg : ℕ → GridSegment) (v : GridPoint) (i : ℕ) : Type 0 where
  pub number : i < n
  pub spans : Spans (seg i) (at_point v)
  pub begun : (seg i).a.x ≤ v.x
  pub ended : v.x ≤ (seg i).b.x

part_of : (n : ℕ) (seg : ℕ → GridSegment) (lo : Bound) (v : GridPoint) (i : ℕ) → IfWall (λ c. c < v.x) lo → IsAcross n seg lo (Wall v.x) i
    → IsPart n seg v i
part_of n seg None v i l a = absurd a.from
part_of n seg (Wall c) v i l a = let m : c < v.x = l in
    record { number = a.number; spans = spans_vertex n seg (Wall c) v i l a; begun = omega (arith, a.from, m); ended = a.to }

sorted_behind : (B : List GridSegment) (n : ℕ) (seg : ℕ → GridSegment) (k : Step) → Position B n seg → IsTurn n seg k
    → Each (IsPart n seg k.vertex) k.below → Each (IsPart n seg k.vertex) k.above → Pairs (IsFurtherDown seg) (before k)
    → Pairs (IsFurtherDown seg) (after k)
sorted_behind B n seg k P t a c s =
    let tail = pairs_right (IsFurtherDown seg) k.below (k.ends ++ k.above) s in
    let across = pairs_across (IsFurtherDown seg) k.below (k.ends ++ k.above) s in
    pairs_joined (IsFurtherDown seg) k.below (k.begins ++ k.above) (pairs_left (IsFurtherDown seg) k.below (k.ends ++ k.above) s)
    (pairs_joined (IsFurtherDown seg) k.begins k.above (fan_sorted B n seg k.vertex k.begins P t.numbers t.step.begins t.fan)
    (pairs_right (IsFurtherDown seg) k.ends k.above tail)
    (each_both (λ i. i < n) (λ i. (seg i).a ≡ k.vertex) (λ i. Each (IsFurtherDown seg i) k.above) k.begins
    (λ i h e. each_both (IsPart n seg k.vertex) (λ j. side_number_at (seg j) (at_point k.vertex) <ℤ pos 0) (IsFurtherDown seg i) k.above
    (λ j p d. lower_old B n seg k.vertex i j P h p.number p.spans d e) c t.step.above)
    t.numbers t.step.begins))
    (each_four (IsPart n seg k.vertex) (λ i. pos 0 <ℤ side_number_at (seg i) (at_point k.vertex))
    (λ i. Each (IsFurtherDown seg i) (k.ends ++ k.above)) (λ i. Each (IsFurtherDown seg i) (k.begins ++ k.above)) k.below
    (λ i p d r. each_joined (IsFurtherDown seg i) k.begins k.above
    (each_both (λ j. j < n) (λ j. (seg j).a ≡ k.vertex) (IsFurtherDown seg i) k.begins
    (λ j h e. lower_new B n seg k.vertex i j P p.number h p.spans d e) t.numbers t.step.begins)
    (each_right (IsFurtherDown seg i) k.ends k.above r)) a t.step.below across)

-- a segment that passes by the vertex ends behind it
ends_behind : (B : List GridSegment) (n : ℕ) (seg : ℕ → GridSegment) (v : GridPoint) (i : ℕ) → Position B n seg
    → (u : (j : ℕ) × (j < n) × IsEnd v (seg j)) → IsPart n seg v i → (side_number_at (seg i) (at_point v) ≡ pos 0 → ⊥) → v.x < (seg i).b.x
ends_behind B n seg v i P u p off =
    elim (less_or v.x (seg i).b.x p.ended)
    [ inl h ↦ h | inr h ↦ absurd (off (zero_at_b (seg i) v (P.columns i u.0 (seg i).b v p.number u.1 (inr refl) u.2 (sym h)))) ]
  where
    less_or : (a b : ℕ) → a ≤ b → (a < b) ⊎ (a ≡ b)
    less_or a b h = grind arith

goes_on : (B : List GridSegment) (n : ℕ) (seg : ℕ → GridSegment) (v : GridPoint) (i : ℕ) → Position B n seg
    → (u : (j : ℕ) × (j < n) × IsEnd v (seg j)) → IsPart n seg v i → (side_number_at (seg i) (at_point v) ≡ pos 0 → ⊥)
    → ((seg i).a.x ≤ v.x) × (v.x < (seg i).b.x)
goes_on B n seg v i P u p off = (p.begun, ends_behind B n seg v i P u p off)

new_here : (B : List GridSegment) (n : ℕ) (seg : ℕ → GridSegment) (v : GridPoint) (i : ℕ) → Position B n seg → i < n → (seg i).a ≡ v
    → ((seg i).a.x ≤ v.x) × (v.x < (seg i).b.x)
new_here B n seg v i P h e = let f = ap (λ (p : GridPoint). p.x) e in (omega (arith, f), omega (arith, f, P.slanted i h))

others_behind : (B : List GridSegment) (n : ℕ) (seg : ℕ → GridSegment) (lo : Bound) (k : Step) (status : List ℕ) (i : ℕ) → Position B n seg
    → IsTurn n seg k → IsNextVertex n seg lo k.vertex → status ≡ before k → i < n
    → In i status ⊎ (IfWall (λ c. c < (seg i).a.x) lo ⊎ HasWall (λ c. (seg i).b.x ≤ c) lo)
    → In i (after k) ⊎ ((k.vertex.x < (seg i).a.x) ⊎ ((seg i).b.x ≤ k.vertex.x))
others_behind B n seg lo k status i P t s e h (inl m) = elim (in_cases i k.below (k.ends ++ k.above) (subst (In i) e m)) [
  | inl a ↦ inl (in_left i k.below (k.begins ++ k.above) a)
  | inr b ↦ elim (in_cases i k.ends k.above b) [
    | inl d ↦ let f = ap (λ (p : GridPoint). p.x) (each_at (λ j. (seg j).b ≡ k.vertex) k.ends i t.step.ends d) in inr
        (inr (omega (arith, f)))
    | inr c ↦ inl (in_right i k.below (k.begins ++ k.above) (in_right i k.begins k.above c))
  ]
]
others_behind B n seg lo k status i P t s e h (inr (inr m)) = inr (inr (past lo m s.later))
  where
    past : (lo : Bound) → HasWall (λ c. (seg i).b.x ≤ c) lo → IfWall (λ c. c < k.vertex.x) lo → (seg i).b.x ≤ k.vertex.x
    past None a b = absurd a
    past (Wall c) a b = let d : c < k.vertex.x = b in omega (arith, a, d)
others_behind B n seg lo k status i P t s e h (inr (inl m)) = go (ahead lo m (s.none_between i (seg i).a h (inl refl)))
  where
    ahead : (lo : Bound) → IfWall (λ c. c < (seg i).a.x) lo → HasWall (λ c. (seg i).a.x ≤ c) lo ⊎ (k.vertex.x ≤ (seg i).a.x)
        → k.vertex.x ≤ (seg i).a.x
    ahead None a (inl b) = absurd b
    ahead (Wall c) a (inl b) = absurd (omega (arith, a, b))
    ahead lo a (inr b) = b

    less_or : (a b : ℕ) → a ≤ b → (a < b) ⊎ (a ≡ b)
    less_or a b h = grind arith

    go : k.vertex.x ≤ (seg i).a.x → In i (after k) ⊎ ((k.vertex.x < (seg i).a.x) ⊎ ((seg i).b.x ≤ k.vertex.x))
    go l = elim (less_or k.vertex.x (seg i).a.x l) [
      | inl d ↦ inr (inl d)
      | inr d ↦ inl (in_right i k.below (k.begins ++ k.above)
          (in_left i k.begins k.above (t.all i h (P.columns i s.vertex.0 (seg i).a k.vertex h s.vertex.1 (inl refl) s.vertex.2 (sym d)))))
    ]

-- the status just behind the vertex
pub here_behind : (B : List GridSegment) (n : ℕ) (seg : ℕ → GridSegment) (lo : Bound) (k : Step) (status : List ℕ) → Position B n seg
    → IsHere n seg lo status → IsNextVertex n seg lo k.vertex → status ≡ before k → IsTurn n seg k
    → IsHere n seg (Wall k.vertex.x) (after k)
here_behind B n seg lo k status P h s e t =
    let st = slab_status n seg lo k.vertex status h s in
    let parts = subst (Each (IsPart n seg k.vertex)) e
    (each_map (IsAcross n seg lo (Wall k.vertex.x)) (IsPart n seg k.vertex) status
    (λ i a. part_of n seg lo k.vertex i s.later a) st.across) in
    let a = each_left (IsPart n seg k.vertex) k.below (k.ends ++ k.above) parts in
    let c = each_right (IsPart n seg k.vertex) k.ends k.above (each_right (IsPart n seg k.vertex) k.below (k.ends ++ k.above) parts) in
    record {
      number = each_joined (λ i. i < n) k.below (k.begins ++ k.above)
          (each_map (IsPart n seg k.vertex) (λ i. i < n) k.below (λ i p. p.number) a)
          (each_joined (λ i. i < n) k.begins k.above t.numbers (each_map (IsPart n seg k.vertex) (λ i. i < n) k.above (λ i p. p.number) c));
      begun = each_joined (λ i. ((seg i).a.x ≤ k.vertex.x) × (k.vertex.x < (seg i).b.x)) k.below (k.begins ++ k.above)
          (each_both (IsPart n seg k.vertex) (λ i. pos 0 <ℤ side_number_at (seg i) (at_point k.vertex))
          (λ i. ((seg i).a.x ≤ k.vertex.x) × (k.vertex.x < (seg i).b.x)) k.below
          (λ i p d. goes_on B n seg k.vertex i P s.vertex p (above_not_zero _ d)) a t.step.below)
          (each_joined (λ i. ((seg i).a.x ≤ k.vertex.x) × (k.vertex.x < (seg i).b.x)) k.begins k.above
          (each_both (λ i. i < n) (λ i. (seg i).a ≡ k.vertex) (λ i. ((seg i).a.x ≤ k.vertex.x) × (k.vertex.x < (seg i).b.x)) k.begins
          (λ i l d. new_here B n seg k.vertex i P l d) t.numbers t.step.begins)
          (each_both (IsPart n seg k.vertex) (λ i. side_number_at (seg i) (at_point k.vertex) <ℤ pos 0)
          (λ i. ((seg i).a.x ≤ k.vertex.x) × (k.vertex.x < (seg i).b.x)) k.above
          (λ i p d. goes_on B n seg k.vertex i P s.vertex p (below_not_zero _ d)) c t.step.above));
      others = λ i l. others_behind B n seg lo k status i P t s e l (h.others i l);
      sorted = sorted_behind B n seg k P t a c (subst (Pairs (IsFurtherDown seg)) e h.sorted);
    }
