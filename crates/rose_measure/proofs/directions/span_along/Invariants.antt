use Rattle.std.proofs.Common.{◌<◌, ◌≤◌, All, take}
use Rattle.grid_base.specs.Grid.{side_bound}
use Rattle.rose_measure.specs.Extremes.{IsInBounds}
use Rattle.rose_measure.specs.Directions.{along}
use Rattle.rose_measure.proofs.directions.span_along.Given as goal

-- the points so far that are in the box lie in the span
abbrev pub invariant-loop-p : goal.invariant-loop-p
invariant-loop-p l = record {
  has : All (λ p. IsInBounds l.part.bounds.low l.part.bounds.high p
      → (l.span.first ≤ along l.way.steps l.way.left l.way.down p) × (along l.way.steps l.way.left l.way.down p ≤ l.span.last))
      (take l.p-index l.p-items);
  first_below : l.span.first < side_bound;
  last_below : l.span.last < side_bound;
}
