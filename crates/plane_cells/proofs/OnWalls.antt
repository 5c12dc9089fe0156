-- This file shows that on the wall of a vertex each label that goes on has a place, and each link.
use Rattle.std.proofs.Common.{◌≡◌, ◌⊎◌, ℕ, suc, ◌*◌, ◌<◌, ◌≤◌, List, ◌++◌, ℤ, pos, ◌<ℤ◌, ◌≤ℤ◌, sym, subst, ◌∙◌, arith, inl, inr}
use Rattle.std.proofs.lemmas.Int.{ints}
use Rattle.grid_base.specs.Point.{GridPoint}
use Rattle.grid_base.specs.Segment.{GridSegment}
use Rattle.grid_base.specs.Plane.{Place, side_number_at, Spans, Holds, IsFree, blend, IsAtPoint}
use Rattle.grid_base.proofs.Signs.{above_not_zero, below_not_zero}
use Rattle.plane_classes.proofs.Ways.{zero_by}
use Rattle.plane_cells.specs.Steps.{Step, before, after, In, Each, label_over}
use Rattle.plane_cells.proofs.Vertical.{zenith, raised_right, column_at, column_real}
use Rattle.plane_cells.proofs.AlongSegments.{over_point, under_point}
use Rattle.plane_cells.proofs.Lower.{at_point}
use Rattle.plane_cells.proofs.Lists.{each_map, each_at, each_joined}
use Rattle.plane_cells.proofs.Labels.{label_at, IsOver, IsUnder, IsOff, IsFurtherDown, label_of_under}
use Rattle.plane_cells.proofs.InGaps.{IsThere, IsApartAt, just_above, below_all, over_off, under_off}
use Rattle.plane_cells.proofs.Walks.{Position, Bound, None, Wall, IfWall, IsAcross, Lies, Across, Ahead, Past, IsStatus, IsStep}
use Rattle.plane_cells.proofs.AtVertices.{AreNumbers, each_with, ends_over, below_over, label_over_all}
use Rattle.plane_cells.proofs.InSlabs.{AreWithin}
use Rattle.plane_classes.proofs.OverTests.{le_from}

-- ---- a place of the wall that is on no segment there is free
column_span : (a v w : ℕ) (x : ℤ) → 0 < w → x ≡ pos (v * w) → pos (a * w) ≤ℤ x → a ≤ v
column_span a v w x h e k = let f : a * w ≤ v * w = omega (arith, ints, e, k) in grind arith

column_span' : (b v w : ℕ) (x : ℤ) → 0 < w → x ≡ pos (v * w) → x ≤ℤ pos (b * w) → v ≤ b
column_span' b v w x h e k = let f : v * w ≤ b * w = omega (arith, ints, e, k) in grind arith

-- the walls before and behind
pub record IsAtWall (n : ℕ) (seg : ℕ → GridSegment) (lo hi : Bound) (k : Step) : Type 0 where
  pub left : IsStatus n seg lo (Wall k.vertex.x) (before k)
  pub right : IsStatus n seg (Wall k.vertex.x) hi (after k)
  pub from : IfWall (λ c. c < k.vertex.x) lo
  pub to : IfWall (λ e. k.vertex.x < e) hi

listed_right : (n : ℕ) (seg : ℕ → GridSegment) (hi : Bound) (k : Step) (i : ℕ) → (seg i).a.x < (seg i).b.x → IfWall (λ e. k.vertex.x < e) hi
    → (seg i).a.x ≤ k.vertex.x → k.vertex.x ≤ (seg i).a.x → Lies seg (Wall k.vertex.x) hi (after k) i → In i (after k)
listed_right n seg hi k i o to a b (Across m) = m
listed_right n seg None k i o to a b (Ahead m) = absurd m
listed_right n seg (Wall e) k i o to a b (Ahead m) = absurd (omega (arith, m, to, a))
listed_right n seg hi k i o to a b (Past m) = absurd (omega (arith, m, o, b))

listed : (n : ℕ) (seg : ℕ → GridSegment) (lo hi : Bound) (k : Step) (i : ℕ) → (seg i).a.x < (seg i).b.x → IsAtWall n seg lo hi k
    → (seg i).a.x ≤ k.vertex.x → k.vertex.x ≤ (seg i).b.x
    → Lies seg lo (Wall k.vertex.x) (before k) i → Lies seg (Wall k.vertex.x) hi (after k) i → In i (before k) ⊎ In i (after k)
listed n seg lo hi k i o s a b (Across m) r = inl m
listed n seg lo hi k i o s a b (Ahead m) r = inr (listed_right n seg hi k i o s.to a m r)
listed n seg None hi k i o s a b (Past m) r = absurd m
listed n seg (Wall c) hi k i o s a b (Past m) r = let f : c < k.vertex.x = s.from in absurd (omega (arith, m, f, b))

off_holds : (seg : ℕ → GridSegment) (r : Place) (i : ℕ) → IsOff seg r i → Holds (seg i) r → ⊥
off_holds seg r i f h = f h.line

pub wall_free : (B : List GridSegment) (n : ℕ) (seg : ℕ → GridSegment) (lo hi : Bound) (k : Step) (r : Place) → Position B n seg
    → IsAtWall n seg lo hi k → 0 < r.w → r.x ≡ pos (k.vertex.x * r.w) → Each (IsOff seg r) (before k) → Each (IsOff seg r) (after k)
    → IsFree B r
wall_free B n seg lo hi k r P s real c f g = record {
  real = real;
  apart = λ t m h. let i = P.all t m in
      let h' = subst (λ (u : GridSegment). Holds u r) (sym i.2) h in
      elim (listed n seg lo hi k i.0 (P.slanted i.0 i.1) s (column_span (seg i.0).a.x k.vertex.x r.w r.x real c h'.across.from)
      (column_span' (seg i.0).b.x k.vertex.x r.w r.x real c h'.across.to) (s.left.others i.0 i.1) (s.right.others i.0 i.1)) [
        | inl q ↦ off_holds seg r i.0 (each_at (IsOff seg r) (before k) i.0 f q) h'
        | inr q ↦ off_holds seg r i.0 (each_at (IsOff seg r) (after k) i.0 g q) h'
      ];
}

-- a free place of the wall with one label on the left and one on the right
pub record IsWallPlace (B : List GridSegment) (seg : ℕ → GridSegment) (k : Step) (y z : ℕ) : Type 0 where
  pub place : Place
  pub free : IsFree B place
  pub column : place.x ≡ pos (k.vertex.x * place.w)
  pub left : label_at seg place 0 (before k) ≡ y
  pub right : label_at seg place 0 (after k) ≡ z

-- ---- just over the vertex
pub over_vertex : (B : List GridSegment) (n : ℕ) (seg : ℕ → GridSegment) (D : ℕ) (lo hi : Bound) (k : Step) → Position B n seg
    → AreWithin n seg D → 0 < D → IsStep n seg k → AreNumbers n k → IsAtWall n seg lo hi k
    → IsWallPlace B seg k (label_over 0 (k.below ++ k.ends)) (label_over 0 (k.below ++ k.begins))
over_vertex B n seg D lo hi k P w hD s m t =
    let r : Place = blend D 1 (at_point k.vertex) zenith in
    let c : r.x ≡ pos (k.vertex.x * r.w) = omega (arith, ints) in
    let l : pos (k.vertex.y * r.w) <ℤ r.y = omega (arith, ints) in
    let real : 0 < r.w = omega (arith, hD) in
    let e = ends_over B n seg k r P s m c l in
    let a = below_over B n seg k r P s m real c (le_from _ _ l) in
    let u = each_with (λ i. side_number_at (seg i) (at_point k.vertex) <ℤ pos 0) (IsUnder seg r) n k.above
    (λ i h d. raised_right (seg i) D (at_point k.vertex) (P.slanted i h) (w i h) d) m.above s.above in
    let off_a = each_map (IsOver seg r) (IsOff seg r) k.below (over_off seg r) a in
    let off_u = each_map (IsUnder seg r) (IsOff seg r) k.above (under_off seg r) u in
    record {
      place = r;
      free = wall_free B n seg lo hi k r P t real c
          (each_joined (IsOff seg r) k.below (k.ends ++ k.above) off_a
          (each_joined (IsOff seg r) k.ends k.above (each_map (IsOver seg r) (IsOff seg r) k.ends (over_off seg r) e.0) off_u))
          (each_joined (IsOff seg r) k.below (k.begins ++ k.above) off_a
          (each_joined (IsOff seg r) k.begins k.above (each_map (IsOver seg r) (IsOff seg r) k.begins (over_off seg r) e.1) off_u));
      column = c;
      left = label_over_all seg r k.below k.ends k.above a e.0 ∙ label_of_under seg r (label_over 0 (k.below ++ k.ends)) k.above u;
      right = label_over_all seg r k.below k.begins k.above a e.1 ∙ label_of_under seg r (label_over 0 (k.below ++ k.begins)) k.above u;
    }

-- ---- a label that goes on
at_vertex_spans : (n : ℕ) (seg : ℕ → GridSegment) (lo : Bound) (k : Step) (i : ℕ) → IfWall (λ c. c < k.vertex.x) lo
    → IsAcross n seg lo (Wall k.vertex.x) i → Spans (seg i) (at_point k.vertex)
at_vertex_spans n seg None k i f a = absurd a.from
at_vertex_spans n seg (Wall c) k i f a = let g : c < k.vertex.x = f in
    record { from = omega (arith, ints, a.from, g); to = omega (arith, ints, a.to) }

at_vertex_spans' : (n : ℕ) (seg : ℕ → GridSegment) (hi : Bound) (k : Step) (i : ℕ) → IfWall (λ e. k.vertex.x < e) hi
    → IsAcross n seg (Wall k.vertex.x) hi i → Spans (seg i) (at_point k.vertex)
at_vertex_spans' n seg None k i f a = absurd a.to
at_vertex_spans' n seg (Wall e) k i f a = let g : k.vertex.x < e = f in
    record { from = omega (arith, ints, a.from); to = omega (arith, ints, a.to, g) }

there_left : (B : List GridSegment) (n : ℕ) (seg : ℕ → GridSegment) (D : ℕ) (lo hi : Bound) (k : Step) → Position B n seg
    → AreWithin n seg D → IsAtWall n seg lo hi k → Each (IsThere seg D (at_point k.vertex)) (before k)
there_left B n seg D lo hi k P w t = each_map (IsAcross n seg lo (Wall k.vertex.x)) (IsThere seg D (at_point k.vertex)) (before k)
    (λ i a. record { slanted = P.slanted i a.number; spans = at_vertex_spans n seg lo k i t.from a; within = w i a.number }) t.left.across

there_right : (B : List GridSegment) (n : ℕ) (seg : ℕ → GridSegment) (D : ℕ) (lo hi : Bound) (k : Step) → Position B n seg
    → AreWithin n seg D → IsAtWall n seg lo hi k → Each (IsThere seg D (at_point k.vertex)) (after k)
there_right B n seg D lo hi k P w t = each_map (IsAcross n seg (Wall k.vertex.x) hi) (IsThere seg D (at_point k.vertex)) (after k)
    (λ i a. record { slanted = P.slanted i a.number; spans = at_vertex_spans' n seg hi k i t.to a; within = w i a.number }) t.right.across

-- segment i isn't at the vertex
abbrev IsPassing : (ℕ → GridSegment) → Step → ℕ → Type 0
IsPassing seg k i = (pos 0 <ℤ side_number_at (seg i) (at_point k.vertex)) ⊎ (side_number_at (seg i) (at_point k.vertex) <ℤ pos 0)

not_at_vertex : (B : List GridSegment) (n : ℕ) (seg : ℕ → GridSegment) (k : Step) (i : ℕ) (m : Place) → Position B n seg → i < n
    → IsPassing seg k i → 0 < m.w → IsAtPoint m k.vertex → Holds (seg i) m → ⊥
not_at_vertex B n seg k i m P l (inl h) real e held = above_not_zero _ (over_point (seg i) k.vertex m (P.slanted i l) real e.0 (le_of _ _ e.1) h)
    (zero_by _ held.line)
  where
    le_of : (x y : ℤ) → y ≡ x → x ≤ℤ y
    le_of x y e = omega (arith, ints, e)
not_at_vertex B n seg k i m P l (inr h) real e held = below_not_zero _
    (under_point (seg i) k.vertex m (P.slanted i l) real e.0 (le_of _ _ e.1) h) (zero_by _ held.line)
  where
    le_of : (x y : ℤ) → x ≡ y → x ≤ℤ y
    le_of x y e = omega (arith, ints, e)

same_column : (v p w : ℕ) (x : ℤ) → 0 < w → x ≡ pos (v * w) → x ≡ pos (p * w) → p ≡ v
same_column v p w x h e f = let g : v * w ≡ p * w = omega (arith, ints, e, f) in grind arith

-- two segments that pass by the vertex, or one that does and another, have no common place in its column
apart_at : (B : List GridSegment) (n : ℕ) (seg : ℕ → GridSegment) (k : Step) (i j : ℕ) → Position B n seg → IsStep n seg k → i < n → j < n
    → IsPassing seg k i → (i ≡ j → ⊥) → IsApartAt seg (at_point k.vertex) i j
apart_at B n seg k i j P s hi hj pass d m c h g =
    let real = column_real (at_point k.vertex) m c (omega arith) in
    let col = column_at k.vertex.x (at_point k.vertex) m c (omega (arith, ints)) in
    let e = P.apart i j m hi hj d h g in
    let p : e.0 ≡ k.vertex = P.columns i s.vertex.0 e.0 k.vertex hi s.vertex.1 e.1 s.vertex.2
    (same_column k.vertex.x e.0.x m.w m.x real col e.3.0) in
    not_at_vertex B n seg k i m P hi pass real (subst (λ (u : GridPoint). IsAtPoint m u) p e.3) h

pub going_on : (B : List GridSegment) (n : ℕ) (seg : ℕ → GridSegment) (D : ℕ) (lo hi : Bound) (k : Step) (i : ℕ) → Position B n seg
    → AreWithin n seg D → 0 < D → IsStep n seg k → IsAtWall n seg lo hi k
    → IsPassing seg k i → In i (before k) → In i (after k) → IsWallPlace B seg k (suc i) (suc i)
going_on B n seg D lo hi k i P w hD s t pass m g =
    let c = at_point k.vertex in
    let a = each_at (IsAcross n seg lo (Wall k.vertex.x)) (before k) i t.left.across m in
    let left = there_left B n seg D lo hi k P w t in
    let right = there_right B n seg D lo hi k P w t in
    let r = just_above seg D c i hD (omega arith) (each_at (IsThere seg D c) (before k) i left m) in
    let x = r.2 (before k) t.left.sorted left
    (each_map (IsAcross n seg lo (Wall k.vertex.x)) (λ j. IsFurtherDown seg i j → IsApartAt seg c i j) (before k)
    (λ j b f. apart_at B n seg k i j P s a.number b.number pass f.0) t.left.across) m in
    let y = r.2 (after k) t.right.sorted right
    (each_map (IsAcross n seg (Wall k.vertex.x) hi) (λ j. IsFurtherDown seg i j → IsApartAt seg c i j) (after k)
    (λ j b f. apart_at B n seg k i j P s a.number b.number pass f.0) t.right.across) g in
    let col = column_at k.vertex.x c r.0 r.1 (omega (arith, ints)) in
    record {
      place = r.0;
      free = wall_free B n seg lo hi k r.0 P t (column_real c r.0 r.1 (omega arith)) col x.off y.off;
      column = col;
      left = x.label;
      right = y.label;
    }

pub going_below : (B : List GridSegment) (n : ℕ) (seg : ℕ → GridSegment) (D : ℕ) (lo hi : Bound) (k : Step) → Position B n seg
    → AreWithin n seg D → IsAtWall n seg lo hi k → IsWallPlace B seg k 0 0
going_below B n seg D lo hi k P w t =
    let c = at_point k.vertex in
    let r = below_all seg D c in
    let x = r.2 (before k) (there_left B n seg D lo hi k P w t) in
    let y = r.2 (after k) (there_right B n seg D lo hi k P w t) in
    let col = column_at k.vertex.x c r.0 r.1 (omega (arith, ints)) in
    record {
      place = r.0;
      free = wall_free B n seg lo hi k r.0 P t (column_real c r.0 r.1 (omega arith)) col x.off y.off;
      column = col;
      left = x.label;
      right = y.label;
    }
