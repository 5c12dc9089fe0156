use Rattle.std.proofs.Common.{subst}
use Rattle.std.proofs.lemmas.List.{take_all}
use Rattle.border_boxes.specs.Boxes.{IsBoxOf}
use Rattle.border_boxes.proofs.BoxSteps.{one_segment_more}
use Rattle.border_boxes.proofs.boxes.box_of.Goals as goal

-- the widened box is that of one segment more
pub loop-s-preserved : goal.loop-s-preserved
loop-s-preserved c =
    let e = c.widened-least.ensures in
    one_segment_more c.loop-s.least c.widened-least.result c.args.border.now c.loop-s.s-index c.s-item.result c.loop-s-test.true c.s-item.is
    (record { one_more = e.one_more; others = e.others; least = e.least }) c.loop-s.invariant

-- all segments are gone through
pub returns : goal.returns
returns c = subst (IsBoxOf c.loop-s.least) (take_all c.loop-s.s-index c.args.border.now c.loop-s-test.false) c.loop-s.invariant
