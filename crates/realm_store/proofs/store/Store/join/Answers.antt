use Rattle.std.proofs.Common.{◌≡◌, inl, ◌∙◌, ap, subst}
use Rattle.std.specs.Prelude.{MatchOption}
use Rattle.realm_store.specs.declared.error.CommitError.TheVariants.{Refused}
use Rattle.realm_store.specs.Keeping.{SpendableKept}
use Rattle.realm_store.specs.Making.{HasRoom, LacksRoom}
use Rattle.realm_store.proofs.Groups.{room_in}
use Rattle.realm_store.proofs.store.Store.join.Goals as goal

-- the gate of the group has no room,
pub refuse-requires-clause-lacks : goal.refuse-requires-clause-lacks
refuse-requires-clause-lacks g c = λ lifetimes lives.
    let unspent = ap (λ (s : SpendableKept). s.spent) c.self.view_is ∙ c.requires.ready in
    let kept = c.args.self.now.kept in
    subst (λ f. MatchOption f (HasRoom kept) (LacksRoom kept)) c.in-Some.is
    (room_in c.self.inside.engine.state c.self.inside.group _ c.self.view_is c.requires.in_group (c.self.invariant unspent).is_open
    c.lack_in.ensures)

pub returns-in-Some-clause-refused : goal.returns-in-Some-clause-refused
returns-in-Some-clause-refused g c = λ word same.
    let is : c.refuse.result ≡ Refused word = cc in
    c.refuse.ensures.refused word is

-- or it has, for each change
pub add-requires-clause-room : goal.add-requires-clause-room
add-requires-clause-room g c = λ lifetimes lives.
    let unspent = ap (λ (s : SpendableKept). s.spent) c.self.view_is ∙ c.requires.ready in
    let kept = c.args.self.now.kept in
    subst (λ f. MatchOption f (HasRoom kept) (LacksRoom kept)) c.in-None.is
    (room_in c.self.inside.engine.state c.self.inside.group _ c.self.view_is c.requires.in_group (c.self.invariant unspent).is_open
    c.lack_in.ensures)

pub returns-in-None-clause-refused : goal.returns-in-None-clause-refused
returns-in-None-clause-refused g c = λ word same.
    let (refused, stays) = c.add.ensures.refused word same in
    (inl refused, stays)
