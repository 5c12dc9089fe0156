use Rattle.std.proofs.Common.{refl}
use Rattle.grid_base.specs.Point.{IsBefore}
use Rattle.state_check.proofs.InOrder.{one_is, all_are, goes_on, before_along}
use Rattle.state_check.proofs.order.points_ascend.Goals as goal

pub loop-i-init : goal.loop-i-init
loop-i-init c = one_is IsBefore c.args.points.now

-- a point that comes after the last
pub loop-i-preserved : goal.loop-i-preserved
loop-i-preserved c =
    goes_on IsBefore before_along c.args.points.now c.loop-i.i c.index-points-i.result c.index-points-i-in-loop-i.result
    c.loop-i.auto.i c.loop-i-test.true c.index-points-i.is c.index-points-i-in-loop-i.is
    (c.comes_before.ensures.0 c.if-not-comes_before.false) c.loop-i.invariant

-- no point is left to compare
pub returns : goal.returns
returns c = (λ yes. all_are IsBefore c.args.points.now c.loop-i.i c.loop-i-test.false c.loop-i.invariant, λ all. refl)
