-- How far along a direction a point is. No public clause cites this file.
use Rattle.std.specs.Prelude.{ℕ, ◌+◌, ◌-◌, ◌*◌, Bool, cond}
use Rattle.grid_base.specs.Grid.{grid_side}
use Rattle.grid_base.specs.Point.{GridPoint}

-- a column or row, counted from the other side of the grid where it is counted back
abbrev pub counted : Bool → ℕ → ℕ
counted back v = cond back (grid_side - 1 - v) v

-- how far p is along the direction that goes so many columns and rows, each of them onward or back
abbrev pub along : GridPoint → Bool → Bool → GridPoint → ℕ
along steps left down p = steps.x * counted left p.x + steps.y * counted down p.y
