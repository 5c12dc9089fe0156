use Rattle.std.proofs.Common.{◌<◌, ◌^◌, ℕ, arith}
use Rattle.state_check.proofs.Copying.{no_front, whole_front, fits_as_list}
use Rattle.state_check.proofs.copies.copied_ids.Goals as goal

pub loop-id-init : goal.loop-id-init
loop-id-init c = no_front (λ (id : ℕ). id < 2 ^ 32) c.args.ids.now c.new-list.result.items c.new-list.ensures.items

-- at the end all are
pub returns-clause-same : goal.returns-clause-same
returns-clause-same c =
    whole_front (λ (id : ℕ). id < 2 ^ 32) c.args.ids.now c.loop-id.id-index c.loop-id.list.items c.loop-id-test.false
    c.loop-id.invariant

pub returns-clause-fits : goal.returns-clause-fits
returns-clause-fits c =
    fits_as_list (λ (id : ℕ). id < 2 ^ 32) c.loop-id.list.items (omega (arith, c.loop-id.list.small, c.loop-id.list.ok))
    c.loop-id.invariant.all
