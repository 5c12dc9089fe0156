use Rattle.std.proofs.Common.{◌≡◌, ◌∙◌, ap, subst, Err}
use Rattle.realm_insert.specs.Refusals.{IsRefusedBy}
use Rattle.realm_insert.specs.declared.refusal.Refusal.{Refusal as Word}
use Rattle.realm_store.specs.Keeping.{SpendableKept, present}
use Rattle.realm_store.proofs.Groups.{at_present, same_store, holds_joined, commits_joined}
use Rattle.realm_store.proofs.store.Store.add.Goals as goal

-- its entry leads on from those of the group
pub invariant_of-self-in-Ok : goal.invariant_of-self-in-Ok
invariant_of-self-in-Ok g c = λ _.
    let unspent = ap (λ (s : SpendableKept). s.spent) c.self.view_is ∙ c.requires.ready in
    record {
      ready = c.in-Ok.ensures.ready;
      is_open = holds_joined c.in-Ok.ensures.made _ _ _ c.self.inside.group c.join_group.new.group c.self.view_is c.requires.in_group
          c.requires.room c.in_ok-join_group-in-Ok.ensures.joined c.requires.spellable (c.self.invariant unspent).is_open;
    }

-- the change joins it
pub returns-in_ok-join_group-in-Ok-clause-made : goal.returns-in_ok-join_group-in-Ok-clause-made
returns-in_ok-join_group-in-Ok-clause-made g c =
    commits_joined c.in-Ok.ensures.made _ _ _ c.self.inside.group c.join_group.new.group c.self.view_is c.requires.in_group c.requires.room
    c.in_ok-join_group-in-Ok.ensures.joined

-- the engine refuses the change, and is as it was
pub returns-in-Err-Refused-clause-refused : goal.returns-in-Err-Refused-clause-refused
returns-in-Err-Refused-clause-refused g c = λ word same.
    let (why, stays) = c.in-Err-Refused.ensures.refused c.in-Err-Refused.word (ap Err c.in-Err-Refused.field-0-is) in
    let is : c.in-Err-Refused.word ≡ word = cc in
    let here = subst (λ s. IsRefusedBy c.args.c.now s c.in-Err-Refused.word)
    (at_present c.self.inside.engine.state c.self.inside.group c.self.view_is) why in (
      subst (λ (w : Word). IsRefusedBy c.args.c.now (present c.args.self.now) w) is here,
      same_store c.self.inside.group stays c.self.view_is c.requires.ready,
    )
