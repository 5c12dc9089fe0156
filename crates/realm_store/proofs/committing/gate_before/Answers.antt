use Rattle.std.proofs.Common.{◌≡◌, inl, refl, ap, subst, Err}
use Rattle.std.specs.Prelude.{MatchOption}
use Rattle.std.proofs.lemmas.Result.{err_from_is_err_and}
use Rattle.realm_insert.specs.declared.refusal.ChangeError.TheVariants.{Refused}
use Rattle.realm_store.specs.Keeping.{kept_at}
use Rattle.realm_store.specs.Making.{HasRoom, LacksRoom}
use Rattle.realm_store.proofs.Groups.{refused_for}
use Rattle.realm_store.proofs.committing.gate_before.Goals as goal

-- the engine refuses the change before a gate is made ready,
pub returns-in_err-ask_first-clause-refused : goal.returns-in_err-ask_first-clause-refused
returns-in_err-ask_first-clause-refused g c = λ word same.
    let (why, is, gives) = err_from_is_err_and c.from_residual.result c.from_residual.ensures.1 in
    let one : c.in_err-ask_first.field-0.0 ≡ Refused word = cc in
    inl (c.in_err-ask_first.ensures word (ap Err one))

-- or the gate has no room
pub returns-in-Some-clause-refused : goal.returns-in-Some-clause-refused
returns-in-Some-clause-refused g c = λ word same.
    let kept = kept_at c.args.engine.now.state c.args.place c.args.has_gate in
    let lacks = subst (λ f. MatchOption f (HasRoom kept) (LacksRoom kept)) c.in-Some.is
    (c.lack_of.ensures kept c.in_ok-gate.ensures) in
    let is : c.refusal_or.result ≡ Refused word = cc in
    refused_for kept refl lacks (c.refusal_or.ensures word is)
