-- Segments with their ends in either order, and with columns and rows exchanged: their places are the same.
use Rattle.std.proofs.Common.{arith}
use Rattle.grid_base.specs.Point.{GridPoint}
use Rattle.grid_base.specs.Segment.{GridSegment, exchanged}
use Rattle.grid_base.specs.Places.{RationalPoint, IsPlace}
use Rattle.grid_base.proofs.Lines.{IsOnLine, line_is, line_by}

-- the way from v to w, as a segment whose ends may stand in either order
abbrev pub way : GridPoint → GridPoint → GridSegment
way v w = record { a = v; b = w }

-- a place of the way there is a place of the way back
pub place_back : (v w : GridPoint) (q : RationalPoint) → IsPlace (way v w) q → IsPlace (way w v) q
place_back v w q place =
    let line = line_is (way v w) q place in
    let back : IsOnLine (way w v) q = omega arith in
    record {
      real = place.real;
      line = line_by (way w v) q back;
      across = omega (arith, place.across);
      up = omega (arith, place.up);
    }

-- a rational point with its row for its column
abbrev pub swapped : RationalPoint → RationalPoint
swapped q = record { x = q.y; y = q.x; w = q.w }

-- a place of a segment is one of the exchanged segment, when it is exchanged too
pub exchanged_place : (s : GridSegment) (q : RationalPoint) → IsPlace s q → IsPlace (exchanged s) (swapped q)
exchanged_place s q place =
    let line = line_is s q place in
    let across : IsOnLine (exchanged s) (swapped q) = omega arith in
    record { real = place.real; line = line_by (exchanged s) (swapped q) across; across = place.up; up = place.across }
