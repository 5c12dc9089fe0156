use Rattle.std.proofs.Common.{◌≡◌, subst}
use Rattle.realm_insert.specs.Refusals.{IsRefusedBy}
use Rattle.realm_insert.specs.declared.refusal.Refusal.{Refusal as Word}
use Rattle.realm_store.proofs.committing.ask_first.Goals as goal

-- it is the engine's refusal
pub returns-in-Ok-Some : goal.returns-in-Ok-Some
returns-in-Ok-Some g c = λ word same.
    let found = rw c.in-Ok-Some.field-0-is at c.in-Ok-Some.ensures in
    let is : c.in-Ok-Some.word ≡ word = cc in
    subst (λ (w : Word). IsRefusedBy c.args.c.now c.args.engine.now.state w) is found
