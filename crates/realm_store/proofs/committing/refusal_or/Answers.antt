use Rattle.std.proofs.Common.{◌≡◌, inl, inr, subst}
use Rattle.realm_insert.specs.Refusals.{IsRefusedBy}
use Rattle.realm_insert.specs.declared.refusal.Refusal.{Refusal as Word}
use Rattle.realm_store.proofs.committing.refusal_or.Goals as goal

-- a cause in the state comes first
pub returns-in-Ok-Some : goal.returns-in-Ok-Some
returns-in-Ok-Some g c = λ word same.
    let found = rw c.in-Ok-Some.field-0-is at c.in-Ok-Some.ensures in
    let is : c.in-Ok-Some.word ≡ word = cc in
    inl (subst (λ (w : Word). IsRefusedBy c.args.c.now c.args.engine.now.state w) is found)

-- and else the lack is told
pub returns-in-Ok-None : goal.returns-in-Ok-None
returns-in-Ok-None g c = λ word same.
    let found = rw c.in-Ok-None.field-0-is at c.in-Ok-None.ensures in
    inr (found, cc)
