-- This file shows which labels a free place in the column of a vertex has, left of it and right of it.
use Rattle.std.proofs.Common.{◌≡◌, ℕ, ◌*◌, ◌<◌, ◌≤◌, List, [], ◌∷◌, ◌++◌, ℤ, pos, ◌<ℤ◌, ◌≤ℤ◌, sym, ap, ◌∙◌, arith, inl, inr}
use Rattle.std.proofs.lemmas.Int.{ints}
use Rattle.grid_base.specs.Point.{GridPoint}
use Rattle.grid_base.specs.Segment.{GridSegment}
use Rattle.grid_base.specs.Segment.{IsEnd}
use Rattle.grid_base.proofs.Turns.{times_le}
use Rattle.grid_base.specs.Plane.{Place, side_number_at, Spans, IsFree, IsFreeWay}
use Rattle.grid_base.proofs.Signs.{on_by_zero, left_by_sign, right_by_sign}
use Rattle.plane_classes.proofs.Heights.{under_a, under_b, over_a, over_b, at_a, at_b}
use Rattle.plane_classes.proofs.Ways.{one_side, held_by_line}
use Rattle.plane_classes.proofs.OverTests.{Less, Same, More, three, le_from}
use Rattle.plane_cells.specs.Steps.{Step, before, after, Each, link, label_over}
use Rattle.linked_parts.specs.Parts.{Links, AreLinked}
use Rattle.plane_cells.proofs.AlongSegments.{over_point}
use Rattle.plane_cells.proofs.Lower.{at_point}
use Rattle.plane_cells.proofs.Lists.{each_map}
use Rattle.linked_parts.proofs.LinkedNumbers.{linked_by, linked_both}
use Rattle.plane_cells.proofs.Links.{link_here, linked_same}
use Rattle.plane_cells.proofs.Labels.{label_at, IsOver, IsUnder, IsAlike, label_joined, over_joined, label_of_over, label_of_under}
use Rattle.plane_cells.proofs.Labels.{label_seed}
use Rattle.plane_cells.proofs.Walks.{Position, Bound, None, Wall, IsFrom, IsTo, IsAcross, IsStep}

-- ---- a place of a slab is in the columns of its segments
pub reach_from : (a c w : ℕ) (x : ℤ) → a ≤ c → pos (c * w) ≤ℤ x → pos (a * w) ≤ℤ x
reach_from a c w x h k = let t = times_le a c 0 w h (omega arith) in omega (arith, ints, k)

reach_to : (b e w : ℕ) (x : ℤ) → e ≤ b → x ≤ℤ pos (e * w) → x ≤ℤ pos (b * w)
reach_to b e w x h k = let t = times_le e b 0 w h (omega arith) in omega (arith, ints, k)

pub slab_spans : (n : ℕ) (seg : ℕ → GridSegment) (lo hi : Bound) (i : ℕ) (q : Place) → IsAcross n seg lo hi i → IsFrom lo q → IsTo hi q
    → Spans (seg i) q
slab_spans n seg None hi i q h f t = absurd h.from
slab_spans n seg (Wall c) None i q h f t = absurd h.to
slab_spans n seg (Wall c) (Wall e) i q h f t =
    record { from = reach_from (seg i).a.x c q.w q.x h.from f; to = reach_to (seg i).b.x e q.w q.x h.to t }

-- ---- both places in one slab
pub alike_in_slab : (B : List GridSegment) (n : ℕ) (seg : ℕ → GridSegment) (lo hi : Bound) (status : List ℕ) (p q : Place)
    → Position B n seg → Each (IsAcross n seg lo hi) status → IsFreeWay B p q
    → IsFrom lo p → IsTo hi p → IsFrom lo q → IsTo hi q → Each (IsAlike seg p q) status
alike_in_slab B n seg lo hi status p q P across way fp tp fq tq = each_map (IsAcross n seg lo hi) (IsAlike seg p q) status
    (λ i h. one_side B p q (seg i) way (P.listed i h.number) (inl (P.slanted i h.number)) (slab_spans n seg lo hi i p h fp tp)
    (slab_spans n seg lo hi i q h fq tq)) across

-- ---- a free place in the column of a vertex
no_place_a : (B : List GridSegment) (n : ℕ) (seg : ℕ → GridSegment) (q : Place) (v : GridPoint) (i : ℕ) → Position B n seg → IsFree B q
    → i < n → (seg i).a ≡ v → q.x ≡ pos (v.x * q.w) → q.y ≡ pos (v.y * q.w) → ⊥
no_place_a B n seg q v i P f l e c d = f.apart (seg i) (P.listed i l) (held_by_line (seg i) q f.real (P.slanted i l)
    (record {
      from = omega (arith, ints, rw (sym e) at c);
      to = let t = times_le (seg i).a.x (seg i).b.x 0 q.w
          (omega (arith, P.slanted i l)) (omega arith) in omega (arith, ints, rw (sym e) at c);
    })
    (on_by_zero _ (at_a (seg i) q (rw (sym e) at c) (rw (sym e) at d))))

no_place_b : (B : List GridSegment) (n : ℕ) (seg : ℕ → GridSegment) (q : Place) (v : GridPoint) (i : ℕ) → Position B n seg → IsFree B q
    → i < n → (seg i).b ≡ v → q.x ≡ pos (v.x * q.w) → q.y ≡ pos (v.y * q.w) → ⊥
no_place_b B n seg q v i P f l e c d = f.apart (seg i) (P.listed i l) (held_by_line (seg i) q f.real (P.slanted i l)
    (record {
      from = let t = times_le (seg i).a.x (seg i).b.x 0 q.w (omega (arith, P.slanted i l)) (omega arith) in omega
          (arith, ints, rw (sym e) at c);
      to = omega (arith, ints, rw (sym e) at c);
    })
    (on_by_zero _ (at_b (seg i) q (rw (sym e) at c) (rw (sym e) at d))))

no_place : (B : List GridSegment) (n : ℕ) (seg : ℕ → GridSegment) (q : Place) (v : GridPoint) (i : ℕ) → Position B n seg → IsFree B q
    → i < n → IsEnd v (seg i) → q.x ≡ pos (v.x * q.w) → q.y ≡ pos (v.y * q.w) → ⊥
no_place B n seg q v i P f l (inl e) c d = no_place_a B n seg q v i P f l (sym e) c d
no_place B n seg q v i P f l (inr e) c d = no_place_b B n seg q v i P f l (sym e) c d

under_ends : (n : ℕ) (seg : ℕ → GridSegment) (q : Place) (v : GridPoint) (i : ℕ) → (seg i).a.x < (seg i).b.x → (seg i).b ≡ v
    → q.x ≡ pos (v.x * q.w) → q.y <ℤ pos (v.y * q.w) → IsUnder seg q i
under_ends n seg q v i o e c l = right_by_sign _ (under_b (seg i) q o (rw (sym e) at c) (rw (sym e) at l))

under_begins : (n : ℕ) (seg : ℕ → GridSegment) (q : Place) (v : GridPoint) (i : ℕ) → (seg i).a.x < (seg i).b.x → (seg i).a ≡ v
    → q.x ≡ pos (v.x * q.w) → q.y <ℤ pos (v.y * q.w) → IsUnder seg q i
under_begins n seg q v i o e c l = right_by_sign _ (under_a (seg i) q o (rw (sym e) at c) (rw (sym e) at l))

over_ends : (n : ℕ) (seg : ℕ → GridSegment) (q : Place) (v : GridPoint) (i : ℕ) → (seg i).a.x < (seg i).b.x → (seg i).b ≡ v
    → q.x ≡ pos (v.x * q.w) → pos (v.y * q.w) <ℤ q.y → IsOver seg q i
over_ends n seg q v i o e c l = left_by_sign _ (over_b (seg i) q o (rw (sym e) at c) (rw (sym e) at l))

over_begins : (n : ℕ) (seg : ℕ → GridSegment) (q : Place) (v : GridPoint) (i : ℕ) → (seg i).a.x < (seg i).b.x → (seg i).a ≡ v
    → q.x ≡ pos (v.x * q.w) → pos (v.y * q.w) <ℤ q.y → IsOver seg q i
over_begins n seg q v i o e c l = left_by_sign _ (over_a (seg i) q o (rw (sym e) at c) (rw (sym e) at l))

-- the numbers of a step are below n
pub record AreNumbers (n : ℕ) (k : Step) : Type 0 where
  pub below : Each (λ i. i < n) k.below
  pub ends : Each (λ i. i < n) k.ends
  pub begins : Each (λ i. i < n) k.begins
  pub above : Each (λ i. i < n) k.above

pub each_with : (P Q : ℕ → Type 0) (n : ℕ) (A : List ℕ) → ((i : ℕ) → i < n → P i → Q i) → Each (λ i. i < n) A → Each P A → Each Q A
each_with P Q n [] f h k = tt
each_with P Q n (i ∷ A) f h k = (f i h.0 k.0, each_with P Q n A f h.1 k.1)

-- all of the four lists, by where q is in the column of the vertex
pub ends_under : (B : List GridSegment) (n : ℕ) (seg : ℕ → GridSegment) (k : Step) (q : Place) → Position B n seg → IsStep n seg k
    → AreNumbers n k → q.x ≡ pos (k.vertex.x * q.w) → q.y <ℤ pos (k.vertex.y * q.w)
    → Each (IsUnder seg q) k.ends × Each (IsUnder seg q) k.begins
ends_under B n seg k q P s m c l = (
  each_with (λ i. (seg i).b ≡ k.vertex) (IsUnder seg q) n k.ends (λ i h e. under_ends n seg q k.vertex i (P.slanted i h) e c l) m.ends
      s.ends,
  each_with (λ i. (seg i).a ≡ k.vertex) (IsUnder seg q) n k.begins (λ i h e. under_begins n seg q k.vertex i (P.slanted i h) e c l) m.begins
      s.begins,
)

pub ends_over : (B : List GridSegment) (n : ℕ) (seg : ℕ → GridSegment) (k : Step) (q : Place) → Position B n seg → IsStep n seg k
    → AreNumbers n k → q.x ≡ pos (k.vertex.x * q.w) → pos (k.vertex.y * q.w) <ℤ q.y
    → Each (IsOver seg q) k.ends × Each (IsOver seg q) k.begins
ends_over B n seg k q P s m c l = (
  each_with (λ i. (seg i).b ≡ k.vertex) (IsOver seg q) n k.ends (λ i h e. over_ends n seg q k.vertex i (P.slanted i h) e c l) m.ends s.ends,
  each_with (λ i. (seg i).a ≡ k.vertex) (IsOver seg q) n k.begins (λ i h e. over_begins n seg q k.vertex i (P.slanted i h) e c l) m.begins
      s.begins,
)

pub below_over : (B : List GridSegment) (n : ℕ) (seg : ℕ → GridSegment) (k : Step) (q : Place) → Position B n seg → IsStep n seg k
    → AreNumbers n k → 0 < q.w → q.x ≡ pos (k.vertex.x * q.w) → pos (k.vertex.y * q.w) ≤ℤ q.y
    → Each (IsOver seg q) k.below
below_over B n seg k q P s m real c l =
    each_with (λ i. pos 0 <ℤ side_number_at (seg i) (at_point k.vertex)) (IsOver seg q) n k.below
    (λ i h e. left_by_sign _ (over_point (seg i) k.vertex q (P.slanted i h) real c l e)) m.below s.below

-- a list in three parts, the middle one not counting or all counting
label_past : (seg : ℕ → GridSegment) (q : Place) (A E C : List ℕ) → Each (IsUnder seg q) E
    → label_at seg q 0 (A ++ (E ++ C)) ≡ label_at seg q (label_at seg q 0 A) C
label_past seg q A E C h =
    label_joined seg q 0 A (E ++ C) ∙ label_joined seg q (label_at seg q 0 A) E C ∙ ap (λ (d : ℕ). label_at seg q d C)
    (label_of_under seg q (label_at seg q 0 A) E h)

pub label_over_all : (seg : ℕ → GridSegment) (q : Place) (A E C : List ℕ) → Each (IsOver seg q) A → Each (IsOver seg q) E
    → label_at seg q 0 (A ++ (E ++ C)) ≡ label_at seg q (label_over 0 (A ++ E)) C
label_over_all seg q A E C h k =
    label_joined seg q 0 A (E ++ C) ∙ label_joined seg q (label_at seg q 0 A) E C
    ∙ ap (λ (d : ℕ). label_at seg q d C)
    (label_of_over seg q (label_at seg q 0 A) E k ∙ ap (λ (d : ℕ). label_over d E) (label_of_over seg q 0 A h) ∙ sym
    (over_joined 0 A E))

pub crossed : (B : List GridSegment) (n : ℕ) (seg : ℕ → GridSegment) (k : Step) (L : Links) (q : Place) → Position B n seg → IsStep n seg k
    → AreNumbers n k → IsFree B q → q.x ≡ pos (k.vertex.x * q.w)
    → AreLinked (link k ∷ L) (label_at seg q 0 (before k)) (label_at seg q 0 (after k))
crossed B n seg k L q P s m f c = elim (three q.y (pos (k.vertex.y * q.w))) [
  | Less l ↦ let u = ends_under B n seg k q P s m c l in
      linked_same (link k ∷ L) _ _ (label_past seg q k.below k.ends k.above u.0 ∙ sym (label_past seg q k.below k.begins k.above u.1))
  | Same l ↦ absurd (no_place B n seg q k.vertex s.vertex.0 P f s.vertex.1 s.vertex.2 c l)
  | More l ↦
      let u = ends_over B n seg k q P s m c l in
      let a = below_over B n seg k q P s m f.real c (le_from _ _ l) in
      let x = label_over 0 (k.below ++ k.ends) in
      let y = label_over 0 (k.below ++ k.begins) in
      let e = label_over_all seg q k.below k.ends k.above a u.0 in
      let g = label_over_all seg q k.below k.begins k.above a u.1 in
      elim (label_seed seg q x y k.above) [
        | inl h ↦ linked_same (link k ∷ L) _ _ (e ∙ h ∙ sym g)
        | inr h ↦ linked_both (link k ∷ L) _ x _ (linked_same (link k ∷ L) _ _ (e ∙ h.0))
            (linked_both (link k ∷ L) x y _ (linked_by (link k ∷ L) x y (link_here (link k) L))
            (linked_same (link k ∷ L) _ _ (sym (g ∙ h.1))))
      ]
]
