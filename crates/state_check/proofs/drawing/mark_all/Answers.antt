use Rattle.state_check.proofs.Placed.{none_explicit, one_more_explicit, all_explicit}
use Rattle.state_check.proofs.drawing.mark_all.Goals as goal

pub loop-p-init : goal.loop-p-init
loop-p-init c = none_explicit c.args.points.now c.args.drawing.now.drawing c.requires.none

-- one more is explicit
pub loop-p-preserved : goal.loop-p-preserved
loop-p-preserved c =
    one_more_explicit c.args.points.now c.loop-p.p-index c.args.drawing.now.drawing.originals c.loop-p.drawing
    c.add_point.new.self c.p-item.result c.loop-p-test.true c.p-item.is c.in_ok-add_point.ensures.added
    c.in_ok-add_point.ensures.ascending c.loop-p.invariant

-- at the end all are
pub returns : goal.returns
returns c =
    let past = c.loop-p-test.false in
    all_explicit c.args.points.now c.loop-p.p-index c.args.drawing.now.drawing.originals c.loop-p.drawing.drawing past
    c.requires.ascending c.loop-p.invariant
