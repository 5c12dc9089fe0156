-- Which steps have a text, and which lists of them are traces.
use Rattle.std.specs.Prelude.{◌<◌, ◌^◌, List, length}
use Rattle.std.specs.List.{AllByRecursion}
use Rattle.grid_base.specs.Point.{OnGrid, IsBefore}
use Rattle.grid_base.specs.Segment.{GridSegment, IsSegmentBefore}
use Rattle.grid_base.specs.declared.kinds.Step.{Step}
use Rattle.grid_base.specs.declared.kinds.Step.TheVariants.{Split, Meet, Corner}

-- the ends of s are on the grid, and the lesser one comes first
pub record IsSegment (s : GridSegment) : Type 0 where
  pub from : OnGrid s.a
  pub to : OnGrid s.b
  pub ordered : IsBefore s.a s.b

-- the parts of the step are on the grid, and of two pieces that meet the lesser one comes first
abbrev pub IsStep : Step → Type 0
IsStep (Split p t) = OnGrid p × IsSegment t
IsStep (Meet t u x) = IsSegment t × IsSegment u × IsSegmentBefore t u × OnGrid x
IsStep (Corner t u) = IsSegment t × IsSegment u

-- of two pieces that meet the lesser one comes first: all else that a step's text asks for holds by its parts' types
abbrev pub IsOrdered : Step → Type 0
IsOrdered (Split p t) = Unit {0}
IsOrdered (Meet t u x) = IsSegmentBefore t u
IsOrdered (Corner t u) = Unit {0}

-- each step has a text, and they are fewer than 2^57: so their texts have fewer than 2^63 bytes
pub record IsTrace (trace : List Step) : Type 0 where
  pub few : length trace < 2 ^ 57
  pub each : AllByRecursion IsStep trace
