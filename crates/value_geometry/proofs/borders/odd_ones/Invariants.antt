use Rattle.value_geometry.proofs.Cancelling.{IsLeft}
use Rattle.value_geometry.proofs.borders.odd_ones.Given as goal

-- what is left of the first segments
abbrev pub invariant-loop-s : goal.invariant-loop-s
invariant-loop-s l = IsLeft l.sorted l.s-index l.odd.items
