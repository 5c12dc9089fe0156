use Rattle.std.proofs.Common.{◌≡◌, refl, subst}
use Rattle.realm_insert.specs.declared.refusal.Refusal.{Refusal as Word}
use Rattle.realm_store.specs.Keeping.{present}
use Rattle.realm_store.specs.Making.{IsRefusedFor}
use Rattle.realm_store.proofs.Groups.{at_present, refused_for}
use Rattle.realm_store.proofs.store.Store.refuse.Goals as goal

-- a cause in the state comes first, and then that there is no room
pub returns-in-Refused-clause-refused : goal.returns-in-Refused-clause-refused
returns-in-Refused-clause-refused g c = λ word same.
    let found = c.refusal_or.ensures c.in-Refused.word c.in-Refused.is in
    let is : c.in-Refused.word ≡ word = cc in
    let at = at_present c.self.inside.engine.state c.self.inside.group c.self.view_is in (
      subst (λ (w : Word). IsRefusedFor c.args.c.now (present c.args.self.now) c.args.self.now.kept w) is
          (refused_for c.args.self.now.kept at c.requires.lacks found),
      refl,
    )
