-- What every operator makes of values: `interior` by what lines shut in, and each other one by its row.
use Rattle.std.specs.Prelude.{List, Option, None, AllPairs}
use Rattle.grid_base.specs.Point.{IsBefore}
use Rattle.grid_base.specs.Segment.{GridSegment, IsSegmentBefore}
use Rattle.rose_values.specs.Areas.{IsRegionWhere}
use Rattle.rose_values.specs.Operators.{IsMadeOf}
use Rattle.rose_values.specs.declared.geometry.Geometry.{Geometry}
use Rattle.rose_values.specs.declared.geometry.Geometry.TheVariants.{P, L, R}
use Rattle.rose_values.specs.declared.operators.Op.{Op}
use Rattle.rose_values.specs.declared.operators.Op.TheVariants.{Interior}
use Rattle.plane_classes.specs.Classes.{IsOuter}

-- the border is that of the region of what the lines shut in: the places off them, not in their outer class
abbrev pub ShutsIn : List GridSegment → List GridSegment → Type 0
ShutsIn lines border = IsRegionWhere lines (λ q. ¬ IsOuter lines q) border

-- the result is what the operator makes of one value, or of two
abbrev pub IsResultOf : Op → Geometry → Option Geometry → Geometry → Type 0
IsResultOf Interior (L lines) None (R border) = ShutsIn lines border
IsResultOf op first second result = IsMadeOf op first second result

-- what the geometry lists ascends, each once
abbrev pub IsAscending : Geometry → Type 0
IsAscending (P points) = AllPairs IsBefore points
IsAscending (L segments) = AllPairs IsSegmentBefore segments
IsAscending (R border) = AllPairs IsSegmentBefore border
