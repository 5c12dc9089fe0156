-- The order of segments, one above another, in their common columns. No public clause cites this file.
use Rattle.std.specs.Prelude.{◌≡◌, ℕ, ◌<◌, pos}
use Rattle.grid_base.specs.Point.{GridPoint}
use Rattle.grid_base.specs.Segment.{GridSegment}
use Rattle.grid_base.specs.Sides.{Side, Left, On, Right}
use Rattle.grid_base.specs.Plane.{Place, side_at, Spans}

-- the first side is not higher than the second
abbrev pub AtMost : Side → Side → Type 0
AtMost Right d = Unit {0}
AtMost On Right = ⊥
AtMost On On = Unit {0}
AtMost On Left = Unit {0}
AtMost Left Right = ⊥
AtMost Left On = ⊥
AtMost Left Left = Unit {0}

-- s is below t in all their common columns, their common ends left out
abbrev pub IsLower : GridSegment → GridSegment → Type 0
IsLower s t = (q : Place) → 0 < q.w → Spans s q → Spans t q → AtMost (side_at t q) (side_at s q)

-- the grid point as a place
abbrev pub at_point : GridPoint → Place
at_point v = record { x = pos v.x; y = pos v.y; w = 1 }

-- i and j are two, and i is the one below
abbrev pub IsFurtherDown : (ℕ → GridSegment) → ℕ → ℕ → Type 0
IsFurtherDown seg i j = (i ≡ j → ⊥) × IsLower (seg i) (seg j)
