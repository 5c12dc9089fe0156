use Rattle.grid_base.specs.Point.{IsBefore}
use Rattle.state_check.proofs.InOrder.{AreInOrder}
use Rattle.state_check.proofs.order.points_ascend.Given as goal

-- the points so far ascend
abbrev pub invariant-loop-i : goal.invariant-loop-i
invariant-loop-i l = AreInOrder IsBefore l.points l.i
