use Rattle.std.proofs.Common.{ap, subst, ◌∙◌}
use Rattle.realm_insert.specs.State.{SpendableState}
use Rattle.realm_insert.specs.Values.{AreValuesOf}
use Rattle.realm_insert.proofs.engine.Engine.table.Goals as goal

-- each change keeps what values are made of
pub returns-clause-values_fit : goal.returns-clause-values_fit
returns-clause-values_fit c =
    let unspent = ap (λ (e : SpendableState). e.spent) c.self.view_is ∙ c.requires.ready in
    subst (λ (e : SpendableState). AreValuesOf e.state.drawing e.state.values) c.self.view_is
    (c.self.invariant unspent).values_fit
