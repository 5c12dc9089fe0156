use Rattle.std.proofs.Common.{◌≡◌, inl, refl, ap, Err}
use Rattle.std.proofs.lemmas.Result.{err_from_is_err_and}
use Rattle.realm_insert.specs.declared.refusal.ChangeError.TheVariants.{Refused}
use Rattle.realm_store.proofs.committing.ready_change.Goals as goal

-- the change is refused before the engine makes it, or by the engine, and that is as it was
pub returns-in_err-gate-clause-refused : goal.returns-in_err-gate-clause-refused
returns-in_err-gate-clause-refused g c = λ word same.
    let (why, is, gives) = err_from_is_err_and c.from_residual.result c.from_residual.ensures.1 in
    let one : c.in_err-gate.field-0.0 ≡ Refused word = cc in
    (c.in_err-gate.ensures.refused word (ap Err one), refl)

pub returns-in_err-made-clause-refused : goal.returns-in_err-made-clause-refused
returns-in_err-made-clause-refused g c = λ word same.
    let (why, is, gives) = err_from_is_err_and c.from_residual-in_err-made.result c.from_residual-in_err-made.ensures.1 in
    let one : c.in_err-made.field-0.0 ≡ Refused word = cc in
    let (refused, stays) = c.in_err-made.ensures.refused word (ap Err one) in
    (inl refused, stays)
