use Rattle.std.proofs.Common.{take}
use Rattle.realm_insert.specs.Indexing.{ForgetsGone}
use Rattle.realm_insert.proofs.indexing.forget_gone.Given as goal

-- those so far that are gone are forgotten
abbrev pub invariant-loop-noted : goal.invariant-loop-noted
invariant-loop-noted l = ForgetsGone l.drawing.drawing (take l.noted-index l.list) l.fn.index l.index
