-- This file shows which parts of the status end at a vertex and pass above it.
use Rattle.std.proofs.Common.{◌≡◌, ℕ, ◌*◌, ◌<◌, List, [], ◌∷◌, length, slice_index, pos, ◌<ℤ◌, refl}
use Rattle.std.proofs.Common.{sym, ap, subst, ◌∙◌, arith, inl, inr}
use Rattle.std.proofs.lemmas.Int.{ints}
use Rattle.grid_base.specs.Point.{GridPoint}
use Rattle.grid_base.specs.Segment.{GridSegment}
use Rattle.grid_base.specs.Segment.{IsEnd}
use Rattle.grid_base.proofs.Signs.{sign, right_by_sign}
use Rattle.grid_base.specs.Plane.{side_number_at, side_at, Spans}
use Rattle.plane_classes.proofs.Heights.{at_a, at_b}
use Rattle.plane_cells.specs.Order.{at_point, IsFurtherDown}
use Rattle.plane_cells.specs.Steps.{Each, Pairs}
use Rattle.plane_cells.specs.Walks.{Bound, None, Wall, IfWall, IsAcross}
use Rattle.plane_cells.proofs.Walks.{Position}
use Rattle.plane_cells.proofs.Vertical.{right_sign, held_at}
use Rattle.plane_cells.proofs.AlongSegments.{right_of_upper}
use Rattle.plane_cells.proofs.Lists.{same_or, each_both}
use Rattle.plane_cells.proofs.Turning.{vertex_spans}

-- ---- a segment of the status that holds the vertex ends there
spans_end : (s : GridSegment) (v : GridPoint) → s.a.x < s.b.x → IsEnd v s → Spans s (at_point v)
spans_end s v o (inl e) = let f = ap (λ (p : GridPoint). p.x) e in record { from = omega (arith, ints, f); to = omega (arith, ints, f, o) }
spans_end s v o (inr e) = let f = ap (λ (p : GridPoint). p.x) e in record { from = omega (arith, ints, f, o); to = omega (arith, ints, f) }

pub zero_end : (s : GridSegment) (v : GridPoint) → IsEnd v s → side_number_at s (at_point v) ≡ pos 0
zero_end s v (inl e) = subst (λ (u : GridPoint). side_number_at s (at_point u) ≡ pos 0) (sym e)
    (at_a s (at_point s.a) (omega (arith, ints)) (omega (arith, ints)))
zero_end s v (inr e) = subst (λ (u : GridPoint). side_number_at s (at_point u) ≡ pos 0) (sym e)
    (at_b s (at_point s.b) (omega (arith, ints)) (omega (arith, ints)))

begun_before : (n : ℕ) (seg : ℕ → GridSegment) (lo : Bound) (v : GridPoint) (j : ℕ) → IfWall (λ c. c < v.x) lo
    → IsAcross n seg lo (Wall v.x) j → (seg j).a.x < v.x
begun_before n seg None v j l a = absurd a.from
begun_before n seg (Wall c) v j l a = let m : c < v.x = l in omega (arith, a.from, m)

not_begin : (n : ℕ) (seg : ℕ → GridSegment) (lo : Bound) (v p : GridPoint) (j : ℕ) → IfWall (λ c. c < v.x) lo
    → IsAcross n seg lo (Wall v.x) j → p.x ≡ v.x → IsEnd p (seg j) → p ≡ (seg j).b
not_begin n seg lo v p j l a e (inl f) = let g = begun_before n seg lo v j l a in absurd
    (omega (arith, g, e, ap (λ (u : GridPoint). u.x) f))
not_begin n seg lo v p j l a e (inr f) = f

pub same_x : (v p : GridPoint) → (at_point v).x ≡ pos (p.x * 1) → p.x ≡ v.x
same_x v p e = omega (arith, ints, e)

on_vertex : (B : List GridSegment) (n : ℕ) (seg : ℕ → GridSegment) (lo : Bound) (v : GridPoint) (j : ℕ) → Position B n seg
    → (u : (i : ℕ) × (i < n) × IsEnd v (seg i)) → IfWall (λ c. c < v.x) lo → IsAcross n seg lo (Wall v.x) j
    → side_number_at (seg j) (at_point v) ≡ pos 0 → (seg j).b ≡ v
on_vertex B n seg lo v j P u l a z = elim (same_or j u.0) [
  | inl e ↦ sym (not_begin n seg lo v v j l a refl (subst (λ (k : ℕ). IsEnd v (seg k)) (sym e) u.2))
  | inr d ↦
      let c = P.apart j u.0 (at_point v) a.number u.1 d
      (held_at (seg j) (at_point v) (omega arith) (P.slanted j a.number) (vertex_spans n seg lo v j l a) z)
      (held_at (seg u.0) (at_point v) (omega arith) (P.slanted u.0 u.1) (spans_end (seg u.0) v (P.slanted u.0 u.1) u.2)
      (zero_end (seg u.0) v u.2)) in
      let x = same_x v c.0 c.3.0 in
      sym (not_begin n seg lo v c.0 j l a x c.1) ∙ P.columns j u.0 c.0 v a.number u.1 c.1 u.2 x
]

-- ---- those above the vertex
pub all_above : (B : List GridSegment) (n : ℕ) (seg : ℕ → GridSegment) (lo : Bound) (v : GridPoint) (C : List ℕ) → Position B n seg
    → (u : (i : ℕ) × (i < n) × IsEnd v (seg i)) → IfWall (λ c. c < v.x) lo → Each (IsAcross n seg lo (Wall v.x)) C
    → Pairs (IsFurtherDown seg) C
    → Each (λ i. pos 0 <ℤ side_number_at (seg i) (at_point v) → ⊥) C → (0 < length C → (seg (slice_index C 0)).b ≡ v → ⊥)
    → Each (λ i. side_number_at (seg i) (at_point v) <ℤ pos 0) C
all_above B n seg lo v [] P u l a s d stop = tt
all_above B n seg lo v (j ∷ C) P u l a s d stop = (
  first,
  each_both (IsAcross n seg lo (Wall v.x)) (IsFurtherDown seg j) (λ i. side_number_at (seg i) (at_point v) <ℤ pos 0) C
      (λ k b f. right_sign _
      (right_of_upper (side_at (seg k) (at_point v)) (side_at (seg j) (at_point v))
      (f.1 (at_point v) (omega arith) (vertex_spans n seg lo v j l a.0) (vertex_spans n seg lo v k l b)) (right_by_sign _ first))) a.1
      s.0,
)
  where
    first : side_number_at (seg j) (at_point v) <ℤ pos 0
    first = elim (sign (side_number_at (seg j) (at_point v))) [
      | inl h ↦ h
      | inr o ↦ elim o [ inl h ↦ absurd (stop (omega arith) (on_vertex B n seg lo v j P u l a.0 h)) | inr h ↦ absurd (d.0 h) ]
    ]
