use Rattle.rose_query.proofs.PresentValues.{one_key_more}
use Rattle.rose_query.proofs.naming.keys.Goals as goal

-- the key of one entry more
pub loop-key-preserved : goal.loop-key-preserved
loop-key-preserved c =
    one_key_more c.args.entries.now c.loop-key.keys.items c.push.new.self.items c.loop-key.key-index c.loop-key-item.result
    c.loop-key-test.true c.loop-key-item.is c.in_ok-push.ensures.items c.loop-key.invariant
