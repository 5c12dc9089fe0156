use Rattle.std.proofs.Common.{take}
use Rattle.realm_insert.specs.Clashes.{AreClear}
use Rattle.realm_insert.proofs.searching.are_clear.Given as goal

-- no piece so far clashes
abbrev pub invariant-loop-t : goal.invariant-loop-t
invariant-loop-t l = AreClear l.drawing.drawing l.s (take l.t-index l.pieces)
