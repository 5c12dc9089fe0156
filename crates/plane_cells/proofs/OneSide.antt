-- This file shows that a way off a segment stays on one side of it.
use Rattle.std.proofs.Common.{◌≡◌, ℕ, ◌+◌, ◌<◌, sym, subst, ◌∙◌, arith, inl, inr}
use Rattle.grid_base.specs.Segment.{GridSegment}
use Rattle.grid_base.specs.Plane.{Place, side_number_at, side_at, Spans, Holds, blend}
use Rattle.grid_base.proofs.Signs.{on_by_zero}
use Rattle.plane_classes.proofs.Blends.{height_blend, spans_blend, blend_one, blend_turned}
use Rattle.plane_classes.proofs.Ways.{Zero, Alike, Apart, signs, held_by_line}
use Rattle.plane_classes.proofs.AlongSegment.{some_weight}

-- no place of the straight way from p to q is on s
abbrev pub Off : GridSegment → Place → Place → Type 0
Off s p q = (i j : ℕ) → 0 < i + j → Holds s (blend i j p q) → ⊥

off_first : (s : GridSegment) (p q : Place) → Off s p q → Holds s p → ⊥
off_first s p q h k = h 1 0 (omega arith) (subst (Holds s) (sym (blend_one p q)) k)

off_last : (s : GridSegment) (p q : Place) → Off s p q → Holds s q → ⊥
off_last s p q h k = h 0 1 (omega arith) (subst (Holds s) (blend_turned 1 0 q p) (subst (Holds s) (sym (blend_one q p)) k))

some_first : (a b : ℕ) → 0 < a → 0 < a + b
some_first a b h = omega arith

pub one_side_by_way : (s : GridSegment) (p q : Place) → 0 < p.w → 0 < q.w → s.a.x < s.b.x → Off s p q → Spans s p → Spans s q
    → side_at s p ≡ side_at s q
one_side_by_way s p q hp hq o off h k = elim (signs (side_number_at s p) (side_number_at s q)) [
  | Zero z ↦ elim z [
    | inl e ↦ absurd (off_first s p q off (held_by_line s p hp o h (on_by_zero _ e)))
    | inr e ↦ absurd (off_last s p q off (held_by_line s q hq o k (on_by_zero _ e)))
  ]
  | Alike e ↦ e
  | Apart a b l e ↦ absurd (off a b (some_first a b l)
      (held_by_line s (blend a b p q) (some_weight a b p.w q.w (some_first a b l) hp hq) o (spans_blend s a b p q h k)
      (on_by_zero _ (height_blend s a b p q ∙ e))))
]
