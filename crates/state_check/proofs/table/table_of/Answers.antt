use Rattle.state_check.proofs.TableLemmas.{none_there, one_more, not_the_next, all_there}
use Rattle.state_check.proofs.table.table_of.Goals as goal

pub loop-n-init : goal.loop-n-init
loop-n-init c = none_there c.args.drawing.now.drawing c.args.values.now c.new-table.result c.new-table.ensures

-- one more is there
pub loop-n-preserved : goal.loop-n-preserved
loop-n-preserved c =
    let made = rw c.if-not-may.false at c.in_ok-may.ensures in
    one_more c.args.drawing.now.drawing c.args.values.now c.loop-n.n-index c.n-item.result c.loop-n.table c.define.new.table
    c.loop-n-test.true c.n-item.is c.loop-n.invariant made.0 made.1 made.2

-- one that may not be there
pub returns-then-not-may : goal.returns-then-not-may
returns-then-not-may c =
    let twice = rw c.if-not-may.true at c.in_ok-may.ensures in
    not_the_next c.args.drawing.now.drawing c.args.values.now c.loop-n.n-index c.n-item.result c.loop-n.table c.loop-n-test.true
    c.n-item.is c.loop-n.invariant twice

-- at the end all are there
pub returns : goal.returns
returns c =
    all_there c.args.drawing.now.drawing c.args.values.now c.loop-n.n-index c.loop-n.table c.loop-n-test.false c.loop-n.invariant
    c.len-distinct.ensures.distinct
