-- The next id is greater than those that were given.
use Rattle.hook_chain.specs.Straight.{AllBelow}
use Rattle.worked_cases.proofs.cases.drawings.placed.Given as goal

abbrev pub invariant-loop-ends : goal.invariant-loop-ends
invariant-loop-ends l = AllBelow l.id l.drawing.drawing
