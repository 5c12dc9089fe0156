use Rattle.std.proofs.Common.{◌⊎◌, All, take}
use Rattle.rose_measure.specs.Extremes.{at_ends, IsInBounds}
use Rattle.rose_measure.specs.Sights.{IsNear}
use Rattle.rose_measure.proofs.narrowing.around_far.Given as goal

-- of the points so far each is in the box, or nothing in sight lies farther from it
abbrev pub invariant-loop-item : goal.invariant-loop-item
invariant-loop-item g l =
    All (λ p. IsInBounds l.part.bounds.low l.part.bounds.high p → IsInBounds l.bounds.low l.bounds.high p ⊎ IsNear l.sight l.found p)
    (at_ends g.T.Placed.place_at (take l.item-index l.item-items))
