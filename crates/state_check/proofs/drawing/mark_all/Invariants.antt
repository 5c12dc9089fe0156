use Rattle.state_check.proofs.Placed.{HasFirst}
use Rattle.state_check.proofs.drawing.mark_all.Given as goal

-- the points so far are explicit
abbrev pub invariant-loop-p : goal.invariant-loop-p
invariant-loop-p l = HasFirst l.points l.p-index l.fn.drawing.drawing.originals l.drawing.drawing
