use Rattle.std.proofs.Common.{length}
use Rattle.realm_insert.specs.Work.{IsCoveredBy}
use Rattle.realm_insert.proofs.settling.next_step.Given as goal

-- the list covers each violation all the time
abbrev pub invariant-loop-piece : goal.invariant-loop-piece
invariant-loop-piece l = IsCoveredBy l.drawing.drawing l.fresh.items

-- and gets shorter
abbrev pub decreases-loop-piece : goal.decreases-loop-piece
decreases-loop-piece l = length l.fresh.items
