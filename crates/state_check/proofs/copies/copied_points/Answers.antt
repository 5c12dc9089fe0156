use Rattle.std.proofs.Common.{arith}
use Rattle.grid_base.specs.Point.{OnGrid}
use Rattle.state_check.proofs.Copying.{no_front, longer_front, whole_front, fits_as_list}
use Rattle.state_check.proofs.copies.copied_points.Goals as goal

pub loop-p-init : goal.loop-p-init
loop-p-init c = no_front OnGrid c.args.points.now c.new-list.result.items c.new-list.ensures.items

-- one more is listed
pub loop-p-preserved : goal.loop-p-preserved
loop-p-preserved c =
    longer_front OnGrid c.args.points.now c.loop-p.p-index c.p-item.result c.loop-p.list.items c.add_point.new.list.items
    c.loop-p-test.true c.p-item.is c.add_point.ensures.on_grid c.in_ok-add_point.ensures.added c.loop-p.invariant

-- at the end all are
pub returns-clause-same : goal.returns-clause-same
returns-clause-same c =
    whole_front OnGrid c.args.points.now c.loop-p.p-index c.loop-p.list.items c.loop-p-test.false c.loop-p.invariant

pub returns-clause-fits : goal.returns-clause-fits
returns-clause-fits c =
    fits_as_list OnGrid c.loop-p.list.items (omega (arith, c.loop-p.list.small, c.loop-p.list.ok)) c.loop-p.invariant.all
