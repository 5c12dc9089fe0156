use Rattle.std.proofs.Common.{All, take}
use Rattle.rose_measure.specs.Extremes.{at_ends, IsInBounds}
use Rattle.rose_measure.proofs.parts.around_within.Given as goal

-- the points so far that are in the window are in the box
abbrev pub invariant-loop-item : goal.invariant-loop-item
invariant-loop-item g l =
    All (λ p. IsInBounds l.window.low l.window.high p → IsInBounds l.bounds.low l.bounds.high p)
    (at_ends g.T.Placed.place_at (take l.item-index l.list))
