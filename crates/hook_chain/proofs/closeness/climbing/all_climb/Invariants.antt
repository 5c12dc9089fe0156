use Rattle.std.proofs.Common.{◌+◌}
use Rattle.hook_chain.proofs.Descents.{IsDescent}
use Rattle.hook_chain.proofs.closeness.climbing.all_climb.Given as goal

-- both ways make up the piece, and all ways from the upper one on climb
abbrev pub invariant-loop-under : goal.invariant-loop-under
invariant-loop-under l =
    IsDescent l.fn.line.q l.fn.line.p l.fn.margin l.fn.piece.q l.fn.piece.p l.low.p l.low.q l.high.p l.high.q l.under l.over

-- what is left of the piece shrinks
abbrev pub decreases-loop-under : goal.decreases-loop-under
decreases-loop-under l = l.under + l.over
