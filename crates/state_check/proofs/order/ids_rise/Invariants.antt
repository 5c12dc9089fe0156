use Rattle.std.proofs.Common.{◌<◌}
use Rattle.grid_base.specs.declared.original.Original.{Original}
use Rattle.state_check.proofs.InOrder.{AreInOrder}
use Rattle.state_check.proofs.order.ids_rise.Given as goal

-- the ids so far rise
abbrev pub invariant-loop-i : goal.invariant-loop-i
invariant-loop-i l = AreInOrder (λ (o p : Original). o.id < p.id) l.originals l.i
