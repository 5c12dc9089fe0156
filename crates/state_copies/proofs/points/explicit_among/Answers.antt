use Rattle.std.proofs.Common.{arith}
use Rattle.grid_base.specs.Point.{OnGrid}
use Rattle.state_check.proofs.Copying.{fits_as_list}
use Rattle.state_copies.proofs.Listing.{none_yet, one_more, all_listed}
use Rattle.state_copies.proofs.points.explicit_among.Goals as goal

pub loop-p-init : goal.loop-p-init
loop-p-init c = none_yet c.args.drawing.now.drawing.points c.args.points.now c.new-list.result.items c.new-list.ensures.items

-- one more point was looked at
pub loop-p-preserved : goal.loop-p-preserved
loop-p-preserved c =
    one_more c.args.drawing.now.drawing.points c.args.points.now c.loop-p.p-index c.p-item.result c.loop-p-test.true c.p-item.is
    c.loop-p.list.items c.list_if_explicit.new.list.items c.requires.ascending c.list_if_explicit.ensures.on_grid
    c.in_ok-list_if_explicit.ensures.listed c.loop-p.invariant

-- at the end all were
pub returns-clause-same : goal.returns-clause-same
returns-clause-same c =
    all_listed c.args.drawing.now.drawing.points c.args.points.now c.loop-p.p-index c.loop-p.list.items c.loop-p-test.false
    c.requires.all c.is_explicit-ascending.ensures.ascending c.loop-p.invariant

pub returns-clause-fits : goal.returns-clause-fits
returns-clause-fits c =
    fits_as_list OnGrid c.loop-p.list.items (omega (arith, c.loop-p.list.small, c.loop-p.list.ok)) c.loop-p.invariant.on_grid

pub returns-clause-ascending : goal.returns-clause-ascending
returns-clause-ascending c = c.loop-p.invariant.ascending
