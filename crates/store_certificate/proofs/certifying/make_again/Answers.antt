use Rattle.std.proofs.Common.{◌∙◌, ap, Err}
use Rattle.realm_insert.specs.declared.refusal.ReplayError.{ReplayError}
use Rattle.realm_insert.proofs.SameStates.{fits}
use Rattle.store_certificate.proofs.certifying.make_again.Goals as goal

-- a trace that settles the change fails nowhere
pub unreachable-requires-in-Err-Mismatch : goal.unreachable-requires-in-Err-Mismatch
unreachable-requires-in-Err-Mismatch g c =
    let failed = c.in-Err-Mismatch in
    let told = c.replay.ensures.mismatch failed.field-0-0 (failed.is ∙ ap (λ (e : ReplayError). Err e) failed.field-0-is) in
    let leads = c.requires.leads in
    fits c.args.engine.now.state leads.0 c.args.change.now c.args.trace.now failed.field-0-0 leads.1 told.1
