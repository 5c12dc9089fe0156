use Rattle.realm_insert.proofs.KeptStates.{AreCopied}
use Rattle.realm_insert.proofs.engine.copied_traces.Given as goal

-- the traces so far are copied
abbrev pub invariant-loop-kept : goal.invariant-loop-kept
invariant-loop-kept l = AreCopied l.list l.kept-index l.copies.items
