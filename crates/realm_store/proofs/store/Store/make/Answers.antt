use Rattle.std.proofs.Common.{◌≡◌, ◌∙◌, sym, ap, subst, Err}
use Rattle.realm_insert.specs.declared.refusal.Refusal.{Refusal as Word}
use Rattle.realm_store.specs.Keeping.{SpendableKept}
use Rattle.realm_store.specs.Making.{IsRefusedFor}
use Rattle.realm_store.specs.ReadyChanges.{IsReady}
use Rattle.realm_store.proofs.Groups.{kept_alone, filed_alone, same_place, same_store}
use Rattle.realm_store.proofs.store.Store.make.Goals as goal

-- the change is made of what is kept, at the same place
pub returns-in-Ok-clause-made : goal.returns-in-Ok-clause-made
returns-in-Ok-clause-made g c =
    let was = c.self.inside.engine.state in
    let group = c.self.inside.group in
    let none = ap (λ (s : SpendableKept). s.group) c.self.view_is ∙ c.requires.alone in
    let here = subst (λ k. IsReady c.args.c.now k c.ready_change.new.engine.state c.in-Ok.ready)
    (kept_alone was group c.self.view_is c.requires.alone) c.in-Ok.ensures.made in
    subst (λ s. IsReady c.args.c.now c.args.self.now.kept s c.in-Ok.ready) (sym (filed_alone was _ group none)) here

pub returns-in-Ok-clause-same_place : goal.returns-in-Ok-clause-same_place
returns-in-Ok-clause-same_place g c =
    same_place c.self.inside.engine.state c.ready_change.new.engine.state c.self.inside.group c.self.view_is

-- the change is refused, and the engine is as it was
pub returns-in-Err-Refused-clause-refused : goal.returns-in-Err-Refused-clause-refused
returns-in-Err-Refused-clause-refused g c = λ word same.
    let (why, stays) = c.in-Err-Refused.ensures.refused c.in-Err-Refused.word (ap Err c.in-Err-Refused.field-0-is) in
    let is : c.in-Err-Refused.word ≡ word = cc in
    let here = subst (λ k. IsRefusedFor c.args.c.now k.state k c.in-Err-Refused.word)
    (kept_alone c.self.inside.engine.state c.self.inside.group c.self.view_is c.requires.alone) why in (
      subst (λ (w : Word). IsRefusedFor c.args.c.now c.args.self.now.kept.state c.args.self.now.kept w) is here,
      same_store c.self.inside.group stays c.self.view_is c.requires.ready,
    )
