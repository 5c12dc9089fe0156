use Rattle.std.proofs.Common.{◌≤◌, length}
use Rattle.rose_measure.specs.Extremes.{at_ends, IsTrimmed}
use Rattle.rose_measure.proofs.narrowing.from_first.Given as goal

-- what is left of the list has each of its points that is in the box
abbrev pub invariant-loop-item : goal.invariant-loop-item
invariant-loop-item g l = record {
  shorter : length l.rest ≤ length l.list;
  trimmed : IsTrimmed l.bounds.low l.bounds.high (at_ends g.T.Placed.place_at l.list) (at_ends g.T.Placed.place_at l.rest);
}

abbrev pub decreases-loop-item : goal.decreases-loop-item
decreases-loop-item g l = length l.rest
