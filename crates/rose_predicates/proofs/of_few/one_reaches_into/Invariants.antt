use Rattle.std.proofs.Common.{All, take}
use Rattle.rose_predicates.proofs.LinesAndRegions.{StaysOut}
use Rattle.rose_predicates.proofs.of_few.one_reaches_into.Given as goal

-- each so far stays out of the region
abbrev pub invariant-loop-s : goal.invariant-loop-s
invariant-loop-s l = All (StaysOut l.border) (take l.s-index l.lines)
