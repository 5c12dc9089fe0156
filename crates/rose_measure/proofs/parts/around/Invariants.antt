use Rattle.std.proofs.Common.{All, take}
use Rattle.rose_measure.specs.Extremes.{at_ends, IsInBounds}
use Rattle.rose_measure.proofs.parts.around.Given as goal

-- the points so far are in the box
abbrev pub invariant-loop-item : goal.invariant-loop-item
invariant-loop-item g l =
    All (IsInBounds l.bounds.low l.bounds.high) (at_ends g.T.Placed.place_at (take l.item-index l.list))
