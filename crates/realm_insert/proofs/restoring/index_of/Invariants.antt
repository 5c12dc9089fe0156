use Rattle.realm_insert.proofs.RestoredIndex.{HasFirstOf}
use Rattle.realm_insert.proofs.restoring.index_of.Given as goal

-- the pieces so far are in the index
abbrev pub invariant-loop-s : goal.invariant-loop-s
invariant-loop-s l = HasFirstOf l.drawing l.pieces l.s-index l.index
