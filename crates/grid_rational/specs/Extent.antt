-- Rational points between the rims of the grid. No public clause cites this file.
use Rattle.std.specs.Prelude.{◌-◌, ◌*◌, ◌<◌, ◌≤◌}
use Rattle.grid_base.specs.Grid.{grid_side, side_bound}
use Rattle.grid_base.specs.Places.{RationalPoint}

-- q is not beyond the last column or the last row, and its numbers are small
pub record IsWithinGrid (q : RationalPoint) : Type 0 where
  pub real : 0 < q.w
  pub below : q.w < 2 * side_bound
  pub columns : q.x ≤ (grid_side - 1) * q.w
  pub rows : q.y ≤ (grid_side - 1) * q.w
