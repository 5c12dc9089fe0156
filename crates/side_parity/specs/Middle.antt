-- The middle of a segment, at which the segments above are counted. No public clause cites this file.
use Rattle.std.specs.Prelude.{◌+◌, Bool, true, false, not}
use Rattle.grid_base.specs.Segment.{GridSegment}
use Rattle.grid_base.specs.Places.{RationalPoint}

-- the middle of s
abbrev pub middle : GridSegment → RationalPoint
middle s = record { x = s.a.x + s.b.x; y = s.a.y + s.b.y; w = 2 }

-- whether one of the two is true and the other isn't
abbrev pub differ : Bool → Bool → Bool
differ false c = c
differ true c = not c
