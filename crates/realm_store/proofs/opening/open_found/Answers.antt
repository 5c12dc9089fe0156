use Rattle.std.proofs.Common.{◌∙◌, ap, Err}
use Rattle.std.proofs.lemmas.Result.{err_from_is_err_and}
use Rattle.realm_store.proofs.Bases.{not_valid, base_on}
use Rattle.realm_store.proofs.Errors.{same_error}
use Rattle.realm_store.proofs.opening.open_found.Goals as goal

-- the state of the snapshot isn't valid,
pub returns-in_err-engine-clause-damaged : goal.returns-in_err-engine-clause-damaged
returns-in_err-engine-clause-damaged c = λ files d found told.
    let (why, is, gives) = err_from_is_err_and c.from_residual.result c.from_residual.ensures.1 in
    not_valid found (c.in_err-engine.ensures.damaged d (ap Err (same_error _ _ (is ∙ ap (λ e. Err e) gives) told)))

-- or the engine has it
pub returns-clause-base : goal.returns-clause-base
returns-clause-base c = λ files found. base_on found c.in_ok-engine.ensures.state c.in_ok-engine.ensures.valid
