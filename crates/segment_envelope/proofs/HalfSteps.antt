-- That a grid point at most half a step from a place of a segment, in each axis, is near the segment where it isn't diagonal.
use Rattle.std.proofs.Common.{◌≢◌, ℕ, ◌+◌, ◌*◌, ◌<◌, ◌≤◌, min, max, arith, inl, inr}
use Rattle.std.proofs.Math.Nat.{lt_of_mul-lt-mul_right}
use Rattle.grid_base.specs.Point.{GridPoint, IsBefore, IsFromTo, InBox, gap}
use Rattle.grid_base.specs.Segment.{GridSegment, width, height}
use Rattle.grid_base.specs.Places.{RationalPoint, IsPlace}
use Rattle.grid_base.proofs.Turns.{leftward, rightward, times_le, in_order}
use Rattle.grid_base.proofs.Balances.{factor_cancels_le}
use Rattle.grid_base.proofs.Lines.{IsOnLine, line_is}
use Rattle.segment_envelope.specs.Near.{Near}
use Rattle.segment_envelope.proofs.Sizes.{size_is}
use Rattle.segment_envelope.proofs.Ranges.{scaled_between}

-- m is at most half a step from n / w
pub record IsHalfStep (n w m : ℕ) : Type 0 where
  pub back : 2 * w * m ≤ 2 * n + w
  pub forth : 2 * n ≤ 2 * w * m + w

-- p is at most half a step from q, in each axis
pub record IsHalfStepFrom (q : RationalPoint) (p : GridPoint) : Type 0 where
  pub across : IsHalfStep q.x q.w p.x
  pub up : IsHalfStep q.y q.w p.y

-- ---- the box
-- a whole number at most half a step from one between two whole numbers is between them
half_inside : (a b n w m : ℕ) → 0 < w → IsFromTo (a * w) (b * w) n → IsHalfStep n w m → IsFromTo a b m
half_inside a b n w m real between half =
    let scaled = scaled_between a b w n between in
    let from = lt_of_mul-lt-mul_right w {m = 2 * min a b} {n = 2 * m + 2} (omega (arith, half.forth)) in
    let to = lt_of_mul-lt-mul_right w {m = 2 * m} {n = 2 * max a b + 2} (omega (arith, half.back)) in
    omega arith

-- a grid point at most half a step from a place of s is in the box of s
pub half_in_box : (s : GridSegment) (q : RationalPoint) (p : GridPoint) → IsPlace s q → IsHalfStepFrom q p → InBox s.a s.b p
half_in_box s q p place half = (
  half_inside s.a.x s.b.x q.x q.w p.x place.real place.across half.across,
  half_inside s.a.y s.b.y q.y q.w p.y place.real place.up half.up,
)

-- ---- twice the side number
-- the side number of such a point is at most half the sum of the runs: where s doesn't fall and p is on the left
rising_left : (s : GridSegment) (q : RationalPoint) (p : GridPoint) → s.a.x ≤ s.b.x → s.a.y ≤ s.b.y → 0 < q.w → IsOnLine s q
    → IsHalfStepFrom q p → 2 * leftward s.a s.b p + (s.a.x + s.a.y) ≤ 2 * rightward s.a s.b p + (s.b.x + s.b.y)
rising_left s q p across up real line half =
    let above = times_le s.a.x s.b.x (2 * q.w * p.y) (2 * q.y + q.w) across half.up.back in
    let behind = times_le s.a.y s.b.y (2 * q.x) (2 * q.w * p.x + q.w) up half.across.forth in
    factor_cancels_le _ _ q.w real (omega arith)

-- where s doesn't fall and p is on the right
rising_right : (s : GridSegment) (q : RationalPoint) (p : GridPoint) → s.a.x ≤ s.b.x → s.a.y ≤ s.b.y → 0 < q.w → IsOnLine s q
    → IsHalfStepFrom q p → 2 * rightward s.a s.b p + (s.a.x + s.a.y) ≤ 2 * leftward s.a s.b p + (s.b.x + s.b.y)
rising_right s q p across up real line half =
    let below = times_le s.a.x s.b.x (2 * q.y) (2 * q.w * p.y + q.w) across half.up.forth in
    let ahead = times_le s.a.y s.b.y (2 * q.w * p.x) (2 * q.x + q.w) up half.across.back in
    factor_cancels_le _ _ q.w real (omega arith)

-- where s doesn't rise and p is on the left
falling_left : (s : GridSegment) (q : RationalPoint) (p : GridPoint) → s.a.x ≤ s.b.x → s.b.y ≤ s.a.y → 0 < q.w → IsOnLine s q
    → IsHalfStepFrom q p → 2 * leftward s.a s.b p + (s.a.x + s.b.y) ≤ 2 * rightward s.a s.b p + (s.b.x + s.a.y)
falling_left s q p across down real line half =
    let above = times_le s.a.x s.b.x (2 * q.w * p.y) (2 * q.y + q.w) across half.up.back in
    let ahead = times_le s.b.y s.a.y (2 * q.w * p.x) (2 * q.x + q.w) down half.across.back in
    factor_cancels_le _ _ q.w real (omega arith)

-- where s doesn't rise and p is on the right
falling_right : (s : GridSegment) (q : RationalPoint) (p : GridPoint) → s.a.x ≤ s.b.x → s.b.y ≤ s.a.y → 0 < q.w → IsOnLine s q
    → IsHalfStepFrom q p → 2 * rightward s.a s.b p + (s.a.x + s.b.y) ≤ 2 * leftward s.a s.b p + (s.b.x + s.a.y)
falling_right s q p across down real line half =
    let below = times_le s.a.x s.b.x (2 * q.y) (2 * q.w * p.y + q.w) across half.up.forth in
    let behind = times_le s.b.y s.a.y (2 * q.x) (2 * q.w * p.x + q.w) down half.across.forth in
    factor_cancels_le _ _ q.w real (omega arith)

-- twice the side number is at most the sum of the runs
half_side : (s : GridSegment) (q : RationalPoint) (p : GridPoint) → IsBefore s.a s.b → IsPlace s q → IsHalfStepFrom q p
    → 2 * gap (leftward s.a s.b p) (rightward s.a s.b p) ≤ width s + height s
half_side s q p ordered place half = elim (in_order s.a.y s.b.y) [
  | inl up ↦
      let left = rising_left s q p (omega arith) up place.real (line_is s q place) half in
      let right = rising_right s q p (omega arith) up place.real (line_is s q place) half in
      omega arith
  | inr down ↦
      let left = falling_left s q p (omega arith) down place.real (line_is s q place) half in
      let right = falling_right s q p (omega arith) down place.real (line_is s q place) half in
      omega arith
]

-- half a sum of two different runs is less than the greater of them
pub half_is_near : (s : GridSegment) (q : RationalPoint) (p : GridPoint) → IsBefore s.a s.b → width s ≢ height s → IsPlace s q
    → IsHalfStepFrom q p → Near s p
half_is_near s q p ordered apart place half = record {
  box = half_in_box s q p place half;
  near = omega (arith, size_is s p, half_side s q p ordered place half, apart);
}
