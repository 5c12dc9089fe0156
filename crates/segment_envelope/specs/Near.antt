-- Which grid points are near a segment: those that a vertex on it may be moved to. The notion is this
-- project's own and serves the redrawing after Daniel H. Greene and F. Frances Yao, "Finite-Resolution
-- Computational Geometry" (1986).
use Rattle.std.specs.Prelude.{◌<◌, max, unsigned_abs}
use Rattle.grid_base.specs.Point.{GridPoint, InBox}
use Rattle.grid_base.specs.Segment.{GridSegment, width, height}
use Rattle.grid_base.specs.Sides.{side_number}

-- p is near s: it is in the box of s, and its side number is less in size than the greater run of s
pub record Near (s : GridSegment) (p : GridPoint) : Type 0 where
  pub box : InBox s.a s.b p
  pub near : unsigned_abs (side_number s p) < max (width s) (height s)
