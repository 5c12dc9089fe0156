-- Segments by four numbers: the column and the row of one end, and those of the other.
use Rattle.std.specs.Prelude.{◌≢◌, ℕ, List, get_or}
use Rattle.grid_base.specs.Point.{GridPoint, point_at, OnGrid}
use Rattle.grid_base.specs.Segment.{GridSegment, segment_of}

-- the one end
abbrev pub one_end : List ℕ → GridPoint
one_end ends = point_at (get_or ends 0 0) (get_or ends 1 0)

-- the other end
abbrev pub other_end : List ℕ → GridPoint
other_end ends = point_at (get_or ends 2 0) (get_or ends 3 0)

-- these are two different points of the grid
pub record AreEnds (ends : List ℕ) : Type 0 where
  pub one : OnGrid (one_end ends)
  pub other : OnGrid (other_end ends)
  pub differ : one_end ends ≢ other_end ends

-- the segment with these ends
abbrev pub between_ends : List ℕ → GridSegment
between_ends ends = segment_of (one_end ends) (other_end ends)
