-- This file shows that the boxes of segments that clash meet, and which pieces reach a box.
use Rattle.std.proofs.Common.{ℕ, ◌*◌, ◌<◌, ◌≤◌, min, max, refl, sym, subst, inl, inr, arith}
use Rattle.std.proofs.Math.Nat.{mul-lt-mul_of_pos_right}
use Rattle.grid_base.specs.Point.{GridPoint, IsFromTo, InBox, IsBefore}
use Rattle.grid_base.specs.Segment.{GridSegment, IsEnd, RangesMeet, BoxesMeet}
use Rattle.grid_base.specs.Crossing.{Inside, Cross}
use Rattle.grid_base.specs.MeetPoint.{crossing_of}
use Rattle.grid_base.proofs.Ends.{columns_in_order}
use Rattle.grid_rational.proofs.Crossings.{crossing_is_place}
use Rattle.realm_audit.specs.Shelves.{AreBoundsAt, MeetsBounds}
use Rattle.realm_audit.specs.Groups.{Surrounds}
use Rattle.realm_audit.specs.Kept.{Clash}
use Rattle.realm_audit.specs.Clashes.{AreClashes}
use Rattle.realm_audit.specs.declared.bounds.Bounds.{Bounds}

-- ---- a common point
-- a number in both ranges
ranges_meet : (a b v w n : ℕ) → IsFromTo a b n → IsFromTo v w n → RangesMeet a b v w
ranges_meet a b v w n first second = (omega arith, omega arith)

boxes_meet_at : (s t : GridSegment) (p : GridPoint) → InBox s.a s.b p → InBox t.a t.b p → BoxesMeet s t
boxes_meet_at s t p in_s in_t = record {
  across = ranges_meet s.a.x s.b.x t.a.x t.b.x p.x in_s.0 in_t.0;
  up = ranges_meet s.a.y s.b.y t.a.y t.b.y p.y in_s.1 in_t.1;
}

-- the ends of a range are in it
first_in_range : (a b : ℕ) → IsFromTo a b a
first_in_range a b = (omega arith, omega arith)

last_in_range : (a b : ℕ) → IsFromTo a b b
last_in_range a b = (omega arith, omega arith)

-- the ends of a segment are in its box
end_in_box : (s : GridSegment) (p : GridPoint) → IsEnd p s → InBox s.a s.b p
end_in_box s p (inl first) =
    subst (InBox s.a s.b) (sym first) (first_in_range s.a.x s.b.x, first_in_range s.a.y s.b.y)
end_in_box s p (inr last) = subst (InBox s.a s.b) (sym last) (last_in_range s.a.x s.b.x, last_in_range s.a.y s.b.y)

-- an end of s is in the box of t
pub boxes_meet_round_end : (s t : GridSegment) (p : GridPoint) → IsEnd p s → InBox t.a t.b p → BoxesMeet s t
boxes_meet_round_end s t p end in_t = boxes_meet_at s t p (end_in_box s p end) in_t

-- an end of s is inside t
pub boxes_meet_at_end : (s t : GridSegment) (p : GridPoint) → IsEnd p s → Inside p t → BoxesMeet s t
boxes_meet_at_end s t p end inside = boxes_meet_round_end s t p end inside.on.box

-- an end of t is inside s
pub boxes_meet_inside : (s t : GridSegment) (p : GridPoint) → IsEnd p t → Inside p s → BoxesMeet s t
boxes_meet_inside s t p end inside = boxes_meet_at s t p inside.on.box (end_in_box t p end)

-- ---- a crossing
-- where the least of one range is above the greatest of another, so it is with their multiples
not_above : (a b v w k n : ℕ) → 0 < k → IsFromTo (a * k) (b * k) n → IsFromTo (v * k) (w * k) n → min a b ≤ max v w
not_above a b v w k n some first second =
    let no : max v w < min a b → ⊥ = λ above.
    let va = mul-lt-mul_of_pos_right {m = v} {n = a} {k = k} (omega arith) some in
    let vb = mul-lt-mul_of_pos_right {m = v} {n = b} {k = k} (omega arith) some in
    let wa = mul-lt-mul_of_pos_right {m = w} {n = a} {k = k} (omega arith) some in
    let wb = mul-lt-mul_of_pos_right {m = w} {n = b} {k = k} (omega arith) some in
    omega arith in
    omega (arith, no)

-- a rational number in both ranges
rational_ranges_meet : (a b v w k n : ℕ) → 0 < k → IsFromTo (a * k) (b * k) n → IsFromTo (v * k) (w * k) n
    → RangesMeet a b v w
rational_ranges_meet a b v w k n some first second =
    (not_above a b v w k n some first second, not_above v w a b k n some second first)

-- the crossing is a place of both
pub boxes_meet_crossing : (s t : GridSegment) → Cross s t → BoxesMeet s t
boxes_meet_crossing s t cross =
    let common = crossing_is_place s t cross in
    let q = crossing_of s t in
    let real = common.first.real in
    record {
      across = rational_ranges_meet s.a.x s.b.x t.a.x t.b.x q.w q.x real common.first.across common.second.across;
      up = rational_ranges_meet s.a.y s.b.y t.a.y t.b.y q.w q.y real common.first.up common.second.up;
    }

-- ---- pieces that reach bounds
-- a piece whose box meets that of t reaches the bounds around t
meeting_reaches : (b : Bounds) (t u : GridSegment) → Surrounds b t → IsBefore t.a t.b → IsBefore u.a u.b → BoxesMeet t u
    → MeetsBounds b u
meeting_reaches b t u around ordered_t ordered_u meet =
    let columns_t = columns_in_order t.a t.b ordered_t in
    let columns_u = columns_in_order u.a u.b ordered_u in
    let across = meet.across in
    let up = meet.up in
    record {
      from_left = omega (arith, around.right);
      to_right = omega (arith, around.left);
      from_below = omega (arith, around.high);
      to_above = omega (arith, around.low);
    }

clash_meets : (t u : GridSegment) → Clash t u → BoxesMeet t u
clash_meets t u (inl cross) = boxes_meet_crossing t u cross
clash_meets t u (inr (inl inside)) = boxes_meet_inside t u u.a (inl refl) inside
clash_meets t u (inr (inr inside)) = boxes_meet_inside t u u.b (inr refl) inside

clash_meets_back : (t u : GridSegment) → Clash u t → BoxesMeet t u
clash_meets_back t u clash =
    let meet = clash_meets u t clash in
    record { across = (meet.across.1, meet.across.0); up = (meet.up.1, meet.up.0) }

-- the boxes of pieces that clash, one way or the other, meet
pub clashes_meet : (t u : GridSegment) → AreClashes t u → BoxesMeet t u
clashes_meet t u (inl clash) = clash_meets t u clash
clashes_meet t u (inr clash) = clash_meets_back t u clash

-- so a piece that clashes with t reaches the bounds around t
pub clash_reaches : (b : Bounds) (t u : GridSegment) → Surrounds b t → IsBefore t.a t.b → IsBefore u.a u.b → AreClashes t u
    → MeetsBounds b u
clash_reaches b t u around ordered_t ordered_u clash =
    meeting_reaches b t u around ordered_t ordered_u (clashes_meet t u clash)

-- and a piece in whose box the point p is reaches p
box_reaches : (b : Bounds) (p : GridPoint) (u : GridSegment) → AreBoundsAt b p → IsBefore u.a u.b → InBox u.a u.b p
    → MeetsBounds b u
box_reaches b p u are ordered box =
    let columns = columns_in_order u.a u.b ordered in
    let across = box.0 in
    let up = box.1 in
    record {
      from_left = omega (arith, are.right);
      to_right = omega (arith, are.left);
      from_below = omega (arith, are.high);
      to_above = omega (arith, are.low);
    }

pub inside_reaches : (b : Bounds) (p : GridPoint) (u : GridSegment) → AreBoundsAt b p → IsBefore u.a u.b → Inside p u
    → MeetsBounds b u
inside_reaches b p u are ordered inside = box_reaches b p u are ordered inside.on.box

pub end_reaches : (b : Bounds) (p : GridPoint) (u : GridSegment) → AreBoundsAt b p → IsBefore u.a u.b → IsEnd p u
    → MeetsBounds b u
end_reaches b p u are ordered end = box_reaches b p u are ordered (end_in_box u p end)
