use Rattle.std.proofs.Common.{ℕ, List, Contains, sym, ap, subst, ◌∙◌}
use Rattle.realm_insert.specs.State.{KeptTrace, SpendableState, kept_trace}
use Rattle.realm_insert.proofs.engine.Engine.trace.Goals as goal

-- the trace that was found has the number
pub returns-then-kept-number-clause-none : goal.returns-then-kept-number-clause-none
returns-then-kept-number-clause-none c =
    let item = c.kept-item.result in
    let place : Contains c.deref-kept-items.result.now item =
    (c.loop-kept.kept-index, c.loop-kept-test.true, sym c.kept-item.is) in
    let traces = ap (λ (e : SpendableState). e.state.traces) c.self.view_is in
    let listed = subst (λ (l : List KeptTrace). Contains l item) (c.deref-kept-items.ensures.value ∙ traces) place in
    let same = sym c.kept.view_is ∙ ap (λ (n : ℕ). kept_trace n c.kept.inside.trace) c.if-kept-number.true in
    let has = subst (Contains c.args.self.now.state.traces) same listed in
    (λ none steps some. cc, λ none. absurd (none c.kept.inside.trace has))
