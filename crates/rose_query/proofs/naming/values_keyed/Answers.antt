use Rattle.rose_query.proofs.PresentValues.{one_value_more}
use Rattle.rose_query.proofs.naming.values_keyed.Goals as goal

-- the value of one name more
pub loop-name-preserved : goal.loop-name-preserved
loop-name-preserved c =
    one_value_more c.args.state.now.state c.args.entries.now c.loop-name.list.items c.push.new.self.items c.loop-name.name-index
    c.loop-name-item.result c.in-Some.geometry c.loop-name-test.true c.loop-name-item.is c.in_ok-push.ensures.items
    c.loop-name.invariant (rw c.in-Some.is at c.in_ok-geometry.ensures)
