use Rattle.std.proofs.Common.{ap, subst, ◌∙◌}
use Rattle.realm_insert.specs.Snapshots.{IsValidState}
use Rattle.realm_insert.specs.State.{SpendableState}
use Rattle.realm_insert.proofs.KeptStates.{is_valid_state}
use Rattle.realm_insert.proofs.engine.Engine.is_valid.Goals as goal

-- the engine keeps it so, and the drawing and the table say the rest of themselves
pub returns : goal.returns
returns c =
    let kept = c.self.inside in
    let view = c.self.view_is in
    let settled = c.self.invariant (ap (λ (e : SpendableState). e.spent) view ∙ c.requires.ready) in
    record {
      valid = subst (λ (e : SpendableState). IsValidState e.state) view
          (is_valid_state kept.drawing kept.index kept.table kept.next_id kept.changes kept.traces.items settled
          c.is_explicit.ensures.ascending c.chain.ensures.rising c.len.ensures.distinct);
    }
