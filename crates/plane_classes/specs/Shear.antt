-- A shear of the plane that makes the order of points the order of columns: then no two vertices have one
-- column, and no segment is upright.
use Rattle.std.specs.Prelude.{ℕ, ◌+◌, ◌*◌, pos, ◌+ℤ◌, ◌*ℤ◌}
use Rattle.grid_base.specs.Point.{GridPoint}
use Rattle.grid_base.specs.Segment.{GridSegment}
use Rattle.grid_base.specs.Plane.{Place}

-- where a point goes: each row by its height further to the right, after columns were set n apart
abbrev pub sheared_point : ℕ → GridPoint → GridPoint
sheared_point n p = record { x = n * p.x + p.y; y = p.y }

-- where a segment goes
abbrev pub sheared : ℕ → GridSegment → GridSegment
sheared n s = record { a = sheared_point n s.a; b = sheared_point n s.b }

-- where a place goes
abbrev pub sheared_place : ℕ → Place → Place
sheared_place n q = record { x = pos n *ℤ q.x +ℤ q.y; y = q.y; w = q.w }
