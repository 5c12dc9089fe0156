use Rattle.std.proofs.Common.{Contains}
use Rattle.side_parity.proofs.Answered.{all_of_it, one_more_holds}
use Rattle.side_parity.proofs.Each.{each_of}
use Rattle.worked_sides.proofs.noded.are_all_in.Goals as goal

-- the border has the segment at hand
pub loop-s-preserved : goal.loop-s-preserved
loop-s-preserved c =
    one_more_holds (Contains c.args.border.now) c.args.list.now c.loop-s.s-index c.s-item.result c.loop-s-test.true c.s-item.is
    (c.has_segment.ensures.0 c.if-not-has_segment.false) c.loop-s.invariant

-- all are gone through
pub returns : goal.returns
returns c = λ _ s there. each_of (Contains c.args.border.now) c.args.list.now s
    (all_of_it (Contains c.args.border.now) c.args.list.now c.loop-s.s-index c.loop-s-test.false c.loop-s.invariant) there
