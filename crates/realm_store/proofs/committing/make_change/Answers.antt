use Rattle.std.proofs.Common.{◌≡◌, ap, Err}
use Rattle.realm_insert.specs.declared.refusal.ChangeError.TheVariants.{Refused}
use Rattle.realm_store.proofs.committing.make_change.Goals as goal

-- the engine refuses the change, and is as it was
pub returns-in-Err-clause-refused : goal.returns-in-Err-clause-refused
returns-in-Err-clause-refused g c = λ word same.
    let one : c.in-Err.error ≡ Refused word = cc in
    c.in-Err.ensures.refused word (ap Err one)
