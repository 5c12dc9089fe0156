-- That a corner of a cell is near a segment which passes through the centre: on the segment where it is the corner on a
-- diagonal, and else because it is half a step away.
use Rattle.std.proofs.Common.{◌≡◌, ◌+◌, ◌<◌, ◌/◌, true, false, nat_lt, arith, inl, inr}
use Rattle.std.proofs.lemmas.Bool.{lt-ltb, le-ltb}
use Rattle.grid_base.specs.Point.{IsBefore}
use Rattle.grid_base.specs.Segment.{GridSegment, is_diagonal}
use Rattle.grid_base.specs.Places.{RationalPoint, IsPlace}
use Rattle.grid_base.specs.MeetPoint.{is_centre, corner_on}
use Rattle.grid_base.proofs.Turns.{leftward, rightward}
use Rattle.grid_base.proofs.Balances.{factor_cancels}
use Rattle.grid_base.proofs.Lines.{line_is}
use Rattle.segment_envelope.specs.Near.{Near}
use Rattle.segment_envelope.proofs.Shapes.{diagonal_is, no_diagonal_is}
use Rattle.segment_envelope.proofs.Sizes.{on_line_is_near}
use Rattle.segment_envelope.proofs.HalfSteps.{IsHalfStepFrom, half_in_box, half_is_near}
use Rattle.segment_envelope.proofs.Roundings.{tie_is, tie_half, centre_is}
use Rattle.segment_envelope.proofs.Diagonals.{IsRising, IsFalling, rises_or_falls}
use Rattle.segment_envelope.proofs.Diagonals.{rising_place, falling_place, rising_point, falling_point}

-- each corner is half a step from the centre, in each axis
corner_half : (d : GridSegment) (q : RationalPoint) → 0 < q.w → is_centre q ≡ true → IsHalfStepFrom q (corner_on d q)
corner_half d q real centre =
    let ties = centre_is q centre in
    record { across = tie_half q.x q.w true real ties.0; up = tie_half q.y q.w (nat_lt d.a.y d.b.y) real ties.1 }

-- each corner is near a segment that isn't diagonal
pub corner_near : (d s : GridSegment) (q : RationalPoint) → IsBefore s.a s.b → is_diagonal s ≡ false → IsPlace s q → is_centre q ≡ true
    → Near s (corner_on d q)
corner_near d s q ordered other place centre =
    half_is_near s q (corner_on d q) ordered (no_diagonal_is s other) place (corner_half d q place.real centre)

-- the upper right corner is on the line of a rising diagonal
rising_corner : (d : GridSegment) (q : RationalPoint) → IsRising d → IsPlace d q → is_centre q ≡ true
    → leftward d.a d.b (corner_on d q) ≡ rightward d.a d.b (corner_on d q)
rising_corner d q rising place centre =
    let ties = centre_is q centre in
    let column = tie_is q.x q.w place.real ties.0 in
    let row = tie_is q.y q.w place.real ties.1 in
    let difference = rising_place d q rising (line_is d q place) in
    let same = factor_cancels (q.y / q.w + d.a.x) (q.x / q.w + d.a.y) q.w place.real (omega arith) in
    rising_point d (corner_on d q) rising (rw (lt-ltb d.a.y d.b.y rising.up) (omega arith))

-- the lower right corner is on the line of a falling diagonal
falling_corner : (d : GridSegment) (q : RationalPoint) → IsFalling d → IsPlace d q → is_centre q ≡ true
    → leftward d.a d.b (corner_on d q) ≡ rightward d.a d.b (corner_on d q)
falling_corner d q falling place centre =
    let ties = centre_is q centre in
    let column = tie_is q.x q.w place.real ties.0 in
    let row = tie_is q.y q.w place.real ties.1 in
    let sum = falling_place d q falling (line_is d q place) in
    let same = factor_cancels (q.y / q.w + (q.x / q.w + 1)) (d.a.x + d.a.y) q.w place.real (omega arith) in
    falling_point d (corner_on d q) falling (rw (le-ltb d.a.y d.b.y (omega (arith, falling.down))) (omega arith))

-- the corner on a diagonal is near it
pub own_corner_near : (d : GridSegment) (q : RationalPoint) → IsBefore d.a d.b → is_diagonal d ≡ true → IsPlace d q → is_centre q ≡ true
    → Near d (corner_on d q)
own_corner_near d q ordered diagonal place centre =
    on_line_is_near d _ ordered (half_in_box d q _ place (corner_half d q place.real centre)) line
  where
    line : leftward d.a d.b (corner_on d q) ≡ rightward d.a d.b (corner_on d q)
    line = elim (rises_or_falls d ordered (diagonal_is d diagonal)) [
      | inl rising ↦ rising_corner d q rising place centre
      | inr falling ↦ falling_corner d q falling place centre
    ]
