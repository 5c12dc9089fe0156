-- That the size of a side number is the gap between the sums to the left and to the right, so that points on a segment
-- are near it.
use Rattle.std.proofs.Common.{◌≡◌, ℕ, ℤ, pos, negsuc, ◌-ℤ◌, arith}
use Rattle.std.proofs.lemmas.Int.{ints}
use Rattle.std.specs.Prelude.{unsigned_abs}
use Rattle.grid_base.specs.Point.{GridPoint, IsBefore, InBox, gap}
use Rattle.grid_base.specs.Segment.{GridSegment}
use Rattle.grid_base.specs.Sides.{side_number}
use Rattle.grid_base.proofs.Turns.{leftward, rightward, turn_is}
use Rattle.segment_envelope.specs.Near.{Near}

-- the size of a difference of naturals is the gap between them
size_of_difference : (z : ℤ) (l r : ℕ) → z ≡ pos l -ℤ pos r → unsigned_abs z ≡ gap l r
size_of_difference (pos n) l r is = omega (arith, ints)
size_of_difference (negsuc n) l r is = omega (arith, ints)

-- the size of the side number of p is the gap between its two sums
pub size_is : (s : GridSegment) (p : GridPoint) → unsigned_abs (side_number s p) ≡ gap (leftward s.a s.b p) (rightward s.a s.b p)
size_is s p = size_of_difference (side_number s p) _ _ (turn_is s.a s.b p)

-- a point of the box whose two sums are equal is near
pub on_line_is_near : (s : GridSegment) (p : GridPoint) → IsBefore s.a s.b → InBox s.a s.b p → leftward s.a s.b p ≡ rightward s.a s.b p
    → Near s p
on_line_is_near s p ordered box line = record { box = box; near = omega (arith, size_is s p) }
