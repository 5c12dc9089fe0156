use Rattle.std.proofs.Common.{sym, ap, ap₂, subst, ◌∙◌}
use Rattle.grid_base.specs.Drawing.{Drawing}
use Rattle.state_check.specs.Drawable.{drawing_with}
use Rattle.state_check.specs.Tabled.{entries_of}
use Rattle.realm_insert.specs.Snapshots.{IsValidState, traces_in}
use Rattle.realm_insert.specs.State.{SpendableState}
use Rattle.realm_insert.proofs.KeptStates.{same_state}
use Rattle.realm_insert.proofs.engine.Engine.snapshot.Goals as goal

-- the state is valid, and the snapshot keeps the same
pub returns-clause-valid : goal.returns-clause-valid
returns-clause-valid c =
    let s = c.args.self.now.state in
    let drawn = c.drawing-drawing.ensures.drawing in
    let points = c.new.ensures ∙ c.in_ok-points.ensures.same ∙ ap (λ (d : Drawing). d.points) drawn in
    let originals = c.new-2.ensures ∙ c.in_ok-originals.ensures.same ∙ ap (λ (d : Drawing). d.originals) drawn in
    let values = ap entries_of c.new-3.ensures ∙ c.in_ok-values.ensures.same ∙ c.table.ensures.table in
    let traces = ap traces_in c.new-4.ensures ∙ c.in_ok-traces.ensures.same ∙ c.as_slice.ensures.value
    ∙ ap (λ (e : SpendableState). e.state.traces) c.self.view_is in
    subst IsValidState
    (sym (same_state (drawing_with c.new.result c.new-2.result) s.drawing c.next_id-2.result s.next_id (entries_of c.new-3.result)
    s.values c.changes.result s.changes (traces_in c.new-4.result) s.traces (ap₂ drawing_with points originals)
    c.next_id-2.ensures.next_id values c.changes.ensures.changes traces))
    c.is_valid.ensures.valid
