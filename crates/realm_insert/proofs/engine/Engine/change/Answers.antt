use Rattle.std.proofs.Common.{◌≡◌, subst}
use Rattle.realm_insert.specs.Refusals.{IsRefusedBy}
use Rattle.realm_insert.specs.declared.refusal.Refusal.{Refusal as Word}
use Rattle.realm_insert.proofs.DrawnAlready.{let_is_there}
use Rattle.realm_insert.proofs.PreparedChanges.{untouched_change}
use Rattle.realm_insert.proofs.engine.Engine.change.Goals as goal

-- no step is permitted where there is no violation
pub returns-in-Ok-make-clause-untouched : goal.returns-in-Ok-make-clause-untouched
returns-in-Ok-make-clause-untouched g c =
    untouched_change c.args.self.now.state c.args.c.now c.in-Ok-make.applied.trace c.make.new.self.state c.in-Ok-make.ensures.next

-- and there is none where all is there
pub returns-in-Ok-make-clause-let_is_there : goal.returns-in-Ok-make-clause-let_is_there
returns-in-Ok-make-clause-let_is_there g c =
    let_is_there c.args.self.now.state c.args.c.now c.in-Ok-make.applied.trace c.make.new.self.state c.in-Ok-make.ensures.next
    c.drawing.ensures.realm c.table.ensures.values_fit

-- the refusal that was found is answered
pub returns-in-Err-Refused-clause-refused : goal.returns-in-Err-Refused-clause-refused
returns-in-Err-Refused-clause-refused g c = λ word same.
    let found = rw c.in-Err-Refused.field-0-is at c.in-Err-Refused.ensures in
    let is : c.in-Err-Refused.refusal ≡ word = cc in
    (subst (λ (w : Word). IsRefusedBy c.args.c.now c.args.self.now.state w) is found, cc)
