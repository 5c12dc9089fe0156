use Rattle.std.proofs.Common.{take_all}
use Rattle.realm_insert.proofs.ForgottenPieces.{forgets_none, forgets_next}
use Rattle.realm_insert.proofs.indexing.forget_gone.Goals as goal

pub loop-noted-init : goal.loop-noted-init
loop-noted-init c = forgets_none c.args.drawing.now.drawing c.args.index.now

-- one more
pub loop-noted-preserved : goal.loop-noted-preserved
loop-noted-preserved c =
    forgets_next c.args.drawing.now.drawing c.args.list.now c.loop-noted.noted-index c.noted-item.result c.args.index.now
    c.loop-noted.index c.forget_if_gone.new.index c.loop-noted-test.true c.noted-item.is c.loop-noted.invariant
    c.forget_if_gone.ensures

-- at the end all were looked at
pub returns : goal.returns
returns c = let past = c.loop-noted-test.false in rw take_all at c.loop-noted.invariant
