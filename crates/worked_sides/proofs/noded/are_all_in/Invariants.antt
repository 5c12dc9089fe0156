use Rattle.std.proofs.Common.{Contains, take}
use Rattle.std.specs.List.{AllByRecursion}
use Rattle.worked_sides.proofs.noded.are_all_in.Given as goal

-- the border has those so far
abbrev pub invariant-loop-s : goal.invariant-loop-s
invariant-loop-s l = AllByRecursion (Contains l.border) (take l.s-index l.list)
