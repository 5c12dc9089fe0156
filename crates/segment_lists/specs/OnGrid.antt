-- What the type of a segment says of it.
use Rattle.std.specs.Prelude.{◌<◌}
use Rattle.grid_base.specs.Grid.{grid_side}
use Rattle.grid_base.specs.Point.{IsBefore}
use Rattle.grid_base.specs.Segment.{GridSegment}

-- the lesser end of s comes first, and s is on the grid
pub record IsOnGrid (s : GridSegment) : Type 0 where
  pub order : IsBefore s.a s.b
  pub row : s.a.y < grid_side
  pub end_column : s.b.x < grid_side
  pub end_row : s.b.y < grid_side
