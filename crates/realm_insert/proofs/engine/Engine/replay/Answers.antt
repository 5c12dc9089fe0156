use Rattle.std.proofs.Common.{◌≡◌, subst}
use Rattle.realm_insert.specs.Refusals.{IsRefusedBy}
use Rattle.realm_insert.specs.declared.refusal.Refusal.{Refusal as Word}
use Rattle.realm_insert.proofs.engine.Engine.replay.Goals as goal

-- the refusal that was found is answered
pub returns-in-Err-Refused-clause-refused : goal.returns-in-Err-Refused-clause-refused
returns-in-Err-Refused-clause-refused g c = λ word same.
    let found = rw c.in-Err-Refused.field-0-is at c.in-Err-Refused.ensures in
    let is : c.in-Err-Refused.refusal ≡ word = cc in
    (subst (λ (w : Word). IsRefusedBy c.args.c.now c.args.self.now.state w) is found, cc)
