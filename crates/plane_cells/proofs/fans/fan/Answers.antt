use Rattle.std.proofs.Common.{arith}
use Rattle.plane_cells.proofs.Inserts.{begins_alike, fan_more, fan_done, doesnt_begin}
use Rattle.plane_cells.proofs.fans.fan.Goals as goal
use Rattle.plane_cells.proofs.fans.fan.Goals.{then-loop-i-test+else-eq, else-loop-i-test}

pub insert_by_angle-requires-clause-begins : goal.insert_by_angle-requires-clause-begins
insert_by_angle-requires-clause-begins c =
    begins_alike c.args.border.now c.args.v.now c.a.result c.loop-i.i c.index-border-i.result c.loop-i.fan c.loop-i-test.true
    c.index-border-i.is c.a.ensures.end c.if-eq.ensures c.loop-i.invariant.begins

pub loop-i-preserved : goal.loop-i-preserved
loop-i-preserved c =
    fan_more c.args.border.now c.args.v.now c.a.result c.args.next c.loop-i.i c.index-border-i.result c.loop-i.fan
    c.insert_by_angle.new.fan c.loop-i.invariant c.loop-i-test.true c.index-border-i.is c.a.ensures.end c.if-eq.ensures
    c.in_ok-insert_by_angle.ensures.inserted c.in_ok-insert_by_angle.ensures.leftward

pub returns : goal.returns
returns c =
    fan_done c.args.border.now c.args.v.now c.args.next c.loop-i.i c.loop-i.fan c.requires.realm c.requires.ascending c.requires.next
    c.requires.on_grid c.loop-i.invariant
    (λ l. elim c.loop-i-test.branch [
      | then-loop-i-test+else-eq w ↦ doesnt_begin c.args.border.now c.args.v.now w.a.result c.loop-i.i w.index-border-i.result l
          w.index-border-i.is w.a.ensures.end w.if-eq.ensures
      | else-loop-i-test w ↦ absurd (omega (arith, l, w.loop-i-test.false))
    ])
