use Rattle.std.proofs.Common.{ℕ, List, sym, ap₂, subst, ◌∙◌}
use Rattle.grid_base.specs.Point.{GridPoint}
use Rattle.grid_base.specs.declared.kinds.Step.{Step}
use Rattle.realm_insert.specs.Next.{Next}
use Rattle.realm_store.specs.Replaying.{IsReplayable}
use Rattle.store_certificate.specs.Telling.{told_items, from_id}
use Rattle.store_certificate.proofs.ChangeItems.{change_told}
use Rattle.store_certificate.proofs.Entries.{next_by, led_once}
use Rattle.store_certificate.proofs.certifying.certify_entry.Goals as goal

-- the change of the entry's line leads where the entry does
pub make_again-requires-clause-leads : goal.make_again-requires-clause-leads
make_again-requires-clause-leads g c κs within =
    let old = c.args.engine.now.state in
    let change = c.in_ok-change.change in
    let leads = c.requires.leads in
    let of_line = subst (λ (l : List ℕ). IsReplayable l change) c.bytes.ensures c.in_ok-change.ensures in (
      leads.0,
      subst (λ (l : List Step). Next old change l leads.0) (sym c.steps.ensures.steps)
          (next_by old leads.0 c.args.entry.now change of_line leads.1),
    )

-- that is one state
pub returns-clause-led : goal.returns-clause-led
returns-clause-led g c =
    let old = c.args.engine.now.state in
    let new = c.make_again.new.engine.state in
    let change = c.in_ok-change.change in
    let of_line = subst (λ (l : List ℕ). IsReplayable l change) c.bytes.ensures c.in_ok-change.ensures in
    let next = subst (λ (l : List Step). Next old change l new) c.steps.ensures.steps c.in_ok-applied.ensures.next in
    λ other leads. led_once old new other c.args.entry.now change of_line next leads

-- what is told is what the change makes of the drawing
pub returns-clause-items : goal.returns-clause-items
returns-clause-items g c =
    let old = c.args.engine.now.state in
    let new = c.make_again.new.engine.state in
    let change = c.in_ok-change.change in
    let trace = c.args.entry.now.trace in
    let next = subst (λ (l : List Step). Next old change l new) c.steps.ensures.steps c.in_ok-applied.ensures.next in
    c.into_items.ensures.items ∙ c.in_ok-lines.ensures
    ∙ ap₂ (λ (points : List GridPoint) (first : ℕ). told_items change points (from_id first new.drawing.originals) trace)
    c.in_ok-applied.ensures.points c.in_ok-applied.ensures.first
    ∙ sym (change_told old new change trace next c.is_valid.ensures.valid c.is_valid-2.ensures.valid)
