use Rattle.std.proofs.Common.{take_all}
use Rattle.state_check.proofs.PartEnds.{no_ends, no_part, one_more_id}
use Rattle.state_check.proofs.ends.ends_of.Goals as goal

pub loop-id-init : goal.loop-id-init
loop-id-init c = no_ends c.args.drawing.now.drawing c.new-list.result.items c.new-list.ensures.items

-- the two ends of one more
pub loop-id-preserved : goal.loop-id-preserved
loop-id-preserved c =
    one_more_id c.args.drawing.now.drawing c.args.ids.now c.loop-id.id-index c.in-Some.ends.0 c.in-Some.ends.1 c.loop-id.list.items
    c.push.new.self.items c.push-in-loop-id.new.self.items c.loop-id-test.true c.in-Some.ensures c.loop-id.invariant
    c.in_ok-push.ensures.items c.in_ok-push-2.ensures.items

-- no original has this id
pub returns-in_default : goal.returns-in_default
returns-in_default c = λ (parts, are).
    no_part c.args.drawing.now.drawing c.args.ids.now parts are c.loop-id.id-index c.loop-id-test.true c.in_default.ensures

-- at the end all are listed
pub returns : goal.returns
returns c = let past = c.loop-id-test.false in rw take_all at c.loop-id.invariant
