-- This file shows that the boxes of segments that have a common point or cross meet, and what meets a box within another.
use Rattle.std.proofs.Common.{ℕ, ◌*◌, ◌<◌, ◌≤◌, min, max, sym, subst, inl, inr, arith}
use Rattle.std.proofs.Math.Nat.{mul-lt-mul_of_pos_right}
use Rattle.grid_base.specs.Point.{GridPoint, IsFromTo, InBox}
use Rattle.grid_base.specs.Segment.{GridSegment, IsEnd, RangesMeet, BoxesMeet}
use Rattle.grid_base.specs.Crossing.{Inside, Cross}
use Rattle.grid_base.specs.MeetPoint.{crossing_of}
use Rattle.grid_rational.proofs.Crossings.{crossing_is_place}
use Rattle.realm_insert.specs.Clashes.{IsWithin}

-- ---- a common point
-- a number in both ranges
ranges_meet : (a b v w n : ℕ) → IsFromTo a b n → IsFromTo v w n → RangesMeet a b v w
ranges_meet a b v w n first second = (omega arith, omega arith)

boxes_meet_at : (s t : GridSegment) (p : GridPoint) → InBox s.a s.b p → InBox t.a t.b p → BoxesMeet s t
boxes_meet_at s t p in_s in_t = record {
  across = ranges_meet s.a.x s.b.x t.a.x t.b.x p.x in_s.0 in_t.0;
  up = ranges_meet s.a.y s.b.y t.a.y t.b.y p.y in_s.1 in_t.1;
}

-- the ends of a range are in it
first_in_range : (a b : ℕ) → IsFromTo a b a
first_in_range a b = (omega arith, omega arith)

last_in_range : (a b : ℕ) → IsFromTo a b b
last_in_range a b = (omega arith, omega arith)

-- the ends of a segment are in its box
pub end_in_box : (s : GridSegment) (p : GridPoint) → IsEnd p s → InBox s.a s.b p
end_in_box s p (inl first) =
    subst (InBox s.a s.b) (sym first) (first_in_range s.a.x s.b.x, first_in_range s.a.y s.b.y)
end_in_box s p (inr last) = subst (InBox s.a s.b) (sym last) (last_in_range s.a.x s.b.x, last_in_range s.a.y s.b.y)

-- an end of s is in the box of t
boxes_meet_round_end : (s t : GridSegment) (p : GridPoint) → IsEnd p s → InBox t.a t.b p → BoxesMeet s t
boxes_meet_round_end s t p end in_t = boxes_meet_at s t p (end_in_box s p end) in_t

-- an end of s is inside t
pub boxes_meet_at_end : (s t : GridSegment) (p : GridPoint) → IsEnd p s → Inside p t → BoxesMeet s t
boxes_meet_at_end s t p end inside = boxes_meet_round_end s t p end inside.on.box

-- an end of t is inside s
pub boxes_meet_inside : (s t : GridSegment) (p : GridPoint) → IsEnd p t → Inside p s → BoxesMeet s t
boxes_meet_inside s t p end inside = boxes_meet_at s t p inside.on.box (end_in_box t p end)

-- ---- a box within another
-- what meets a range meets each range that it is within
range_meets_within : (a b m n v w : ℕ) → IsFromTo a b m → IsFromTo a b n → RangesMeet m n v w → RangesMeet a b v w
range_meets_within a b m n v w first last meet = (omega arith, omega arith)

pub boxes_meet_within : (near s t : GridSegment) → IsWithin near s → BoxesMeet s t → BoxesMeet near t
boxes_meet_within near s t within meet = record {
  across = range_meets_within near.a.x near.b.x s.a.x s.b.x t.a.x t.b.x within.0.0 within.1.0 meet.across;
  up = range_meets_within near.a.y near.b.y s.a.y s.b.y t.a.y t.b.y within.0.1 within.1.1 meet.up;
}

-- ---- a crossing
-- where the least of one range is above the greatest of another, so it is with their multiples
not_above : (a b v w k n : ℕ) → 0 < k → IsFromTo (a * k) (b * k) n → IsFromTo (v * k) (w * k) n → min a b ≤ max v w
not_above a b v w k n some first second =
    let no : max v w < min a b → ⊥ = λ above.
    let va = mul-lt-mul_of_pos_right {m = v} {n = a} {k = k} (omega arith) some in
    let vb = mul-lt-mul_of_pos_right {m = v} {n = b} {k = k} (omega arith) some in
    let wa = mul-lt-mul_of_pos_right {m = w} {n = a} {k = k} (omega arith) some in
    let wb = mul-lt-mul_of_pos_right {m = w} {n = b} {k = k} (omega arith) some in
    omega arith in
    omega (arith, no)

-- a rational number in both ranges
rational_ranges_meet : (a b v w k n : ℕ) → 0 < k → IsFromTo (a * k) (b * k) n → IsFromTo (v * k) (w * k) n
    → RangesMeet a b v w
rational_ranges_meet a b v w k n some first second =
    (not_above a b v w k n some first second, not_above v w a b k n some second first)

-- the crossing is a place of both
pub boxes_meet_crossing : (s t : GridSegment) → Cross s t → BoxesMeet s t
boxes_meet_crossing s t cross =
    let common = crossing_is_place s t cross in
    let q = crossing_of s t in
    let real = common.first.real in
    record {
      across = rational_ranges_meet s.a.x s.b.x t.a.x t.b.x q.w q.x real common.first.across common.second.across;
      up = rational_ranges_meet s.a.y s.b.y t.a.y t.b.y q.w q.y real common.first.up common.second.up;
    }
