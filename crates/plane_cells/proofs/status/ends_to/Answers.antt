use Rattle.std.proofs.Common.{arith}
use Rattle.plane_cells.proofs.Parts.{one_end_more, not_an_end}
use Rattle.plane_cells.proofs.status.ends_to.Goals as goal

pub loop-to-preserved : goal.loop-to-preserved
loop-to-preserved c =
    one_end_more c.args.border.now c.args.p.now c.b.result c.args.from c.loop-to.to c.args.status.now c.segment_at.result
    c.loop-to.invariant (omega (arith, c.loop-to-test.true, c.len.ensures)) c.segment_at.ensures c.b.ensures.end c.if-eq.ensures

pub returns-else-eq-clause-next : goal.returns-else-eq-clause-next
returns-else-eq-clause-next c l =
    not_an_end c.args.border.now c.args.p.now c.b.result c.loop-to.to c.args.status.now c.segment_at.result c.segment_at.ensures
    c.b.ensures.end c.if-eq.ensures
