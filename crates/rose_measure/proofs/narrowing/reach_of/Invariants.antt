use Rattle.std.proofs.Common.{◌<◌, ◌≤◌, All, take}
use Rattle.grid_base.specs.Grid.{side_bound}
use Rattle.rose_measure.specs.Numbers.{squared_distance}
use Rattle.rose_measure.specs.Extremes.{at_ends, IsInBounds}
use Rattle.rose_measure.proofs.narrowing.reach_of.Given as goal

-- the points so far that are in the box lie no farther
abbrev pub invariant-loop-item : goal.invariant-loop-item
invariant-loop-item g l = record {
  most : All (λ q. IsInBounds l.part.bounds.low l.part.bounds.high q → squared_distance q l.p ≤ l.reach)
      (at_ends g.T.Placed.place_at (take l.item-index l.item-items));
  below : l.reach < side_bound;
}
