use Rattle.state_check.proofs.TableLemmas.{HasFirst}
use Rattle.state_check.proofs.table.table_of.Given as goal

-- the values so far are there
abbrev pub invariant-loop-n : goal.invariant-loop-n
invariant-loop-n l = HasFirst l.drawing.drawing l.values l.n-index l.table
