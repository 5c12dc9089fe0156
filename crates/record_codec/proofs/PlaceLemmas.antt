-- This file shows that points and segments are read exactly where their texts stand.
use Rattle.std.proofs.Common.{◌≡◌, ◌⊎◌, ℕ, ◌^◌, Bool, true, false, ◌&&◌, nat_lt, inl, inr, refl, arith}
use Rattle.std.specs.Prelude.{◌||◌}
use Rattle.std.specs.Int.{w32}
use Rattle.std.proofs.lemmas.Grind.{common_steps}
use Rattle.grid_base.specs.Grid.{grid_side}
use Rattle.grid_base.specs.Point.{GridPoint, OnGrid, IsBefore, is_before, is_point, point_at as point_with}
use Rattle.grid_base.specs.Segment.{GridSegment, IsSegmentBefore}
use Rattle.grid_base.proofs.Orders.{is_point-same, is_point-itself}
use Rattle.record_codec.specs.Spelling.{point, segment}
use Rattle.record_codec.specs.Traces.{IsSegment}
use Rattle.record_codec.specs.Reading.{is_on_grid, is_segment_before, point_at, segment_at, ordered_at}
use Rattle.record_codec.proofs.Bytes.{four_bytes}
use Rattle.record_codec.proofs.Codecs.{IsCodec, text_of_both, both_codec, made_codec, tested_codec, renamed_codec, number_codec}

-- ---- tests

-- both parts of a test hold
pub and_true : (a b : Bool) → (a && b) ≡ true → (a ≡ true) × (b ≡ true)
and_true true b e = (refl, e)
and_true false b e = absurd cc

or_true : (a b : Bool) → (a || b) ≡ true → (a ≡ true) ⊎ (b ≡ true)
or_true true b e = inl refl
or_true false b e = inr e

is_on_grid-true : (p : GridPoint) → is_on_grid p ≡ true → OnGrid p
is_on_grid-true p e =
    let t = and_true (nat_lt p.x grid_side) (nat_lt p.y grid_side) e in
    record { column = grind (arith, common_steps, t.0); row = grind (arith, common_steps, t.1) }

on_grid-is : (p : GridPoint) → OnGrid p → is_on_grid p ≡ true
on_grid-is p on = grind (arith, common_steps, on.column, on.row)

is_before-true : (p q : GridPoint) → is_before p q ≡ true → IsBefore p q
is_before-true p q e = grind (arith, common_steps, e)

before-is : (p q : GridPoint) → IsBefore p q → is_before p q ≡ true
before-is p q h = grind (arith, common_steps, h)

is_segment_before-true : (s t : GridSegment) → is_segment_before s t ≡ true → IsSegmentBefore s t
is_segment_before-true s t e =
    elim (or_true (is_before s.a t.a) (is_point s.a t.a && is_before s.b t.b) e) [
      | inl h ↦ inl (is_before-true s.a t.a h)
      | inr h ↦ let k = and_true (is_point s.a t.a) (is_before s.b t.b) h in
          inr (is_point-same s.a t.a k.0, is_before-true s.b t.b k.1)
    ]

segment_before-is : (s t : GridSegment) → IsSegmentBefore s t → is_segment_before s t ≡ true
segment_before-is s t (inl h) = rw (before-is s.a t.a h) refl
segment_before-is s t (inr h) = rw (h.0, is_point-itself t.a, before-is s.b t.b h.1) (grind (arith, common_steps))

-- ---- codecs

pub point_codec : IsCodec OnGrid point point_at
unfolding point point_at
point_codec =
    let number = number_codec w32 (2 ^ 32) four_bytes in
    renamed_codec OnGrid (λ p has. is_on_grid-true p has.1)
    (λ p on. ((omega (arith, on.column), omega (arith, on.row)), on_grid-is p on))
    (tested_codec is_on_grid (made_codec (λ (x : ℕ × ℕ). point_with x.0 x.1) (λ p. (p.x, p.y)) (λ p. refl) (λ x. refl)
    (both_codec number number)))

pub segment_codec : IsCodec IsSegment segment segment_at
unfolding segment segment_at
segment_codec =
    renamed_codec IsSegment
    (λ s has. record { from = has.0.0; to = has.0.1; ordered = is_before-true s.a s.b has.1 })
    (λ s is. ((is.from, is.to), before-is s.a s.b is.ordered))
    (made_codec (λ (x : GridPoint × GridPoint). record { a = x.0; b = x.1 }) (λ s. (s.a, s.b)) (λ s. refl) (λ x. refl)
    (tested_codec (λ (x : GridPoint × GridPoint). is_before x.0 x.1) (both_codec point_codec point_codec)))

-- two segments, the lesser one first
pub ordered_codec : IsCodec (λ (x : GridSegment × GridSegment). (IsSegment x.0 × IsSegment x.1) × IsSegmentBefore x.0 x.1)
    (text_of_both segment segment) ordered_at
unfolding ordered_at
ordered_codec =
    renamed_codec (λ (x : GridSegment × GridSegment). (IsSegment x.0 × IsSegment x.1) × IsSegmentBefore x.0 x.1)
    (λ x has. (has.0, is_segment_before-true x.0 x.1 has.1))
    (λ x is. (is.0, segment_before-is x.0 x.1 is.1))
    (tested_codec (λ (x : GridSegment × GridSegment). is_segment_before x.0 x.1) (both_codec segment_codec segment_codec))
