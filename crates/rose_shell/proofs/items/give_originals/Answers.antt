use Rattle.certificate_law.specs.Certificates.{chain_item}
use Rattle.rose_shell.proofs.GivenItems.{gave_nothing, gave_one, gave_to, gave_first, gave_over, gave_err}
use Rattle.rose_shell.proofs.items.give_originals.Goals as goal

pub loop-original-init : goal.loop-original-init
loop-original-init g c = record { gave = gave_nothing c.requires.intact }

-- one original more
pub loop-original-preserved : goal.loop-original-preserved
loop-original-preserved g c = record {
  gave = gave_one chain_item c.args.originals.now c.loop-original.original-index c.original-item.result c.loop-original-test.true
      c.original-item.is c.loop-original.invariant.gave c.in_ok-item.ensures.item c.in_ok-give_item.ensures;
}

-- memory runs out before its line
pub returns-in_err-item : goal.returns-in_err-item
returns-in_err-item g c =
    gave_err c.from_residual.result c.from_residual.ensures.1
    (gave_first chain_item c.args.originals.now c.loop-original.original-index c.loop-original.invariant.gave)

-- a fault comes within it, or before
pub returns-in_err-give_item : goal.returns-in_err-give_item
returns-in_err-give_item g c =
    gave_err c.from_residual-in_err-give_item.result c.from_residual-in_err-give_item.ensures.1
    (gave_to chain_item c.args.originals.now c.loop-original.original-index c.original-item.result c.loop-original-test.true
    c.original-item.is c.loop-original.invariant.gave c.in_ok-item.ensures.item c.in_err-give_item.ensures)

-- they were all
pub returns : goal.returns
returns g c =
    gave_over chain_item c.args.originals.now c.loop-original.original-index c.loop-original.invariant.gave c.loop-original-test.false
