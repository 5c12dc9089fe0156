use Rattle.std.proofs.Common.{take_all, arith, ◌∙◌}
use Rattle.record_codec.specs.Payload.{IsKeptTrace}
use Rattle.state_check.proofs.Copying.{fits_as_list}
use Rattle.realm_insert.proofs.KeptStates.{none_copied, one_more_copied}
use Rattle.realm_insert.proofs.engine.copied_traces.Goals as goal

pub loop-kept-init : goal.loop-kept-init
loop-kept-init c = none_copied c.args.list.now c.new-copies.result.items c.new-copies.ensures.items

-- one more
pub loop-kept-preserved : goal.loop-kept-preserved
loop-kept-preserved c =
    one_more_copied c.args.list.now c.loop-kept.kept-index c.kept-item.result c.loop-kept.copies.items
    c.copy_trace.new.copies.items c.loop-kept-test.true c.kept-item.is c.in_ok-copy_trace.ensures.number c.copy_trace.ensures.fits
    c.in_ok-copy_trace.ensures.added c.loop-kept.invariant

-- at the end all are
pub returns-clause-same : goal.returns-clause-same
returns-clause-same c = c.loop-kept.invariant.are ∙ take_all c.loop-kept.kept-index c.args.list.now c.loop-kept-test.false

pub returns-clause-fits : goal.returns-clause-fits
returns-clause-fits c =
    fits_as_list IsKeptTrace c.loop-kept.copies.items (omega (arith, c.loop-kept.copies.small, c.loop-kept.copies.ok))
    c.loop-kept.invariant.fit
