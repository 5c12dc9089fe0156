use Rattle.std.proofs.Common.{◌≤◌, ◌^◌, ap, subst, ◌∙◌}
use Rattle.grid_base.specs.Drawing.{IsDrawnRealm}
use Rattle.grid_base.proofs.RealmLaw.{drawn_realm_by}
use Rattle.realm_insert.specs.State.{SpendableState, HasIdsBelow}
use Rattle.realm_insert.proofs.engine.Engine.drawing.Goals as goal

-- the drawing has no violation
pub returns-clause-realm : goal.returns-clause-realm
returns-clause-realm c =
    let unspent = ap (λ (e : SpendableState). e.spent) c.self.view_is ∙ c.requires.ready in
    let realm = drawn_realm_by c.self.inside.drawing.drawing (c.self.invariant unspent).rest.settled in
    subst IsDrawnRealm (ap (λ (e : SpendableState). e.state.drawing) c.self.view_is) realm

-- each change keeps the ids below the next one
pub returns-clause-ids : goal.returns-clause-ids
returns-clause-ids c =
    let unspent = ap (λ (e : SpendableState). e.spent) c.self.view_is ∙ c.requires.ready in
    subst (λ (e : SpendableState). HasIdsBelow e.state.next_id e.state.drawing) c.self.view_is (c.self.invariant unspent).ids

-- and no id is given past the last of 32 bits
pub returns-clause-most_ids : goal.returns-clause-most_ids
returns-clause-most_ids c =
    let unspent = ap (λ (e : SpendableState). e.spent) c.self.view_is ∙ c.requires.ready in
    subst (λ (e : SpendableState). e.state.next_id ≤ 2 ^ 32) c.self.view_is (c.self.invariant unspent).most_ids
