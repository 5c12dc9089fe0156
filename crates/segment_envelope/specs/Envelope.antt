-- Which grid points are in the envelope of a segment. The definition is this project's own: on maps an
-- envelope is the bounding box, and papers on realms use the word in another sense again.
use Rattle.std.specs.Prelude.{◌+◌, ◌<◌, unsigned_abs}
use Rattle.grid_base.specs.Point.{GridPoint, InBox}
use Rattle.grid_base.specs.Segment.{GridSegment, width, height}
use Rattle.grid_base.specs.Sides.{side_number}

-- p is in the envelope of s: it is in the box of s, and its side number is less in size than both runs
-- of s together. So p is nearer than 1 to the line of s in the maximum norm.
pub record Env (s : GridSegment) (p : GridPoint) : Type 0 where
  pub box : InBox s.a s.b p
  pub close : unsigned_abs (side_number s p) < width s + height s
