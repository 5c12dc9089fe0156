use Rattle.std.proofs.Common.{◌<◌, All, take}
use Rattle.grid_base.specs.Grid.{grid_side}
use Rattle.grid_base.specs.Point.{IsBefore}
use Rattle.plane_classes.proofs.laws.each_is_in_range.Given as goal

-- the segments so far are ordered, and low enough
abbrev pub invariant-loop-s : goal.invariant-loop-s
invariant-loop-s l = record {
  ordered : All (λ s. IsBefore s.a s.b) (take l.s-index l.list);
  low : All (λ s. s.a.y < grid_side) (take l.s-index l.list);
}
