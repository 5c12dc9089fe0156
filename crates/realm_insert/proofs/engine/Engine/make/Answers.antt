use Rattle.std.proofs.Common.{ℕ, Bor, Err, List, Contains, ◌≡◌, ◌↔◌, ◌+◌, ap, sym, subst, ◌∙◌, length, arith}
use Rattle.std.proofs.lemmas.Result.{err_from_is_err_and}
use Rattle.grid_base.specs.Drawing.{Drawing}
use Rattle.grid_base.specs.Point.{GridPoint}
use Rattle.grid_base.specs.Segment.{GridSegment}
use Rattle.grid_base.specs.declared.kinds.Step.{Step}
use Rattle.realm_insert.specs.Changes.{IsChangedTo}
use Rattle.realm_insert.specs.Differences.{points_besides}
use Rattle.realm_insert.specs.Misfits.{Misfits, MisfitsAt}
use Rattle.realm_insert.specs.Refusals.{IsAccepted}
use Rattle.realm_insert.specs.Figures.{Draws}
use Rattle.realm_insert.specs.State.{SpendableState, HasIdsBelow}
use Rattle.realm_insert.specs.declared.settling.SettleError.{SettleError}
use Rattle.realm_insert.specs.declared.settling.SettleError.TheVariants.{Mismatch}
use Rattle.realm_insert.proofs.AscendingParts.{ascend_after}
use Rattle.realm_insert.proofs.ChangedValues.{values_changed}
use Rattle.realm_insert.proofs.FailedTraces.{has_also}
use Rattle.realm_insert.proofs.KeptStates.{latest_fit}
use Rattle.realm_insert.proofs.KeptValues.{values_settled}
use Rattle.realm_insert.proofs.NewPoints.{points_come}
use Rattle.realm_insert.proofs.NewValues.{drawn_even, values_after}
use Rattle.realm_insert.proofs.PreparedChanges.{can_be_drawn, most_drawn, state_of}
use Rattle.realm_insert.proofs.engine.Engine.make.Goals as goal

-- what the change draws is accepted
pub redraw-requires-clause-can : goal.redraw-requires-clause-can
redraw-requires-clause-can c =
    let was = c.self.invariant (ap (λ (e : SpendableState). e.spent) c.self.view_is ∙ c.requires.ready) in
    let accepted = subst (λ (e : SpendableState). IsAccepted c.args.c.now e.state) (sym c.self.view_is) c.requires.accepted in
    let draws = subst (λ (e : SpendableState). Draws c.args.c.now e.state c.args.figure) (sym c.self.view_is) c.requires.draws in
    let kept = c.self.inside in
    let s = state_of kept.drawing.drawing kept.next_id kept.table kept.changes kept.traces.items in
    can_be_drawn c.args.c.now s c.args.figure accepted draws was.ids was.first_id was.most_ids

-- the name is free
pub revalue-requires-clause-free : goal.revalue-requires-clause-free
revalue-requires-clause-free c =
    (subst (λ (e : SpendableState). IsAccepted c.args.c.now e.state) (sym c.self.view_is) c.requires.accepted).1.1.1.0

-- the ids are left
pub revalue-requires-clause-most : goal.revalue-requires-clause-most
revalue-requires-clause-most c =
    let was = c.self.invariant (ap (λ (e : SpendableState). e.spent) c.self.view_is ∙ c.requires.ready) in
    let accepted = subst (λ (e : SpendableState). IsAccepted c.args.c.now e.state) (sym c.self.view_is) c.requires.accepted in
    let draws = subst (λ (e : SpendableState). Draws c.args.c.now e.state c.args.figure) (sym c.self.view_is) c.requires.draws in
    let kept = c.self.inside in
    let s = state_of kept.drawing.drawing kept.next_id kept.table kept.changes kept.traces.items in
    most_drawn c.args.c.now s c.args.figure draws accepted.1.1.1.1.1.1.1.1.1.0 was.most_ids

-- what was there and what is new is made of what is drawn
pub invariant_of-self-2 : goal.invariant_of-self-2
invariant_of-self-2 c = λ unspent.
    let was = c.self.invariant (ap (λ (e : SpendableState). e.spent) c.self.view_is ∙ c.requires.ready) in
    let accepted = subst (λ (e : SpendableState). IsAccepted c.args.c.now e.state) (sym c.self.view_is) c.requires.accepted in
    let draws = subst (λ (e : SpendableState). Draws c.args.c.now e.state c.args.figure) (sym c.self.view_is) c.requires.draws in
    let kept = c.self.inside in
    let figure = c.args.figure in
    let d = kept.drawing.drawing in
    let first = kept.next_id in
    let s = state_of d first kept.table kept.changes kept.traces.items in
    let (changed, is, settles) = c.in_ok-trace.ensures.redrawn in
    let fit = values_changed d first changed kept.table was.values_fit c.args.c.now figure
    accepted.1.1.1.1.1.1.1.1.0 is in
    let even = drawn_even c.args.c.now s figure accepted.1.1.0 draws in
    let new = values_after d first changed kept.table c.revalue.new.table fit c.args.c.now figure c.requires.spellable even is
    c.in_ok-revalue.ensures in
    let added = ap (λ (l : List GridSegment). length l) c.segments.ensures in
    let most = most_drawn c.args.c.now s figure draws accepted.1.1.1.1.1.1.1.1.1.0 was.most_ids in
    record {
      rest = c.in_ok-trace.ensures.rest;
      values_fit = values_settled changed c.redraw.new.drawing.drawing c.in_ok-trace.trace c.revalue.new.table settles new;
      parts_ascend = ascend_after figure first kept.table c.revalue.new.table was.parts_ascend c.args.c.now c.in_ok-revalue.ensures;
      ids = subst (λ (n : ℕ). HasIdsBelow (first + n) c.redraw.new.drawing.drawing) (sym added) c.in_ok-trace.ensures.ids;
      first_id = omega arith;
      most_ids = omega (arith, added, most);
      most_changes = omega (arith, c.in_ok-count.ensures.changes, accepted.1.1.1.1.1.1.1.1.1.1.0);
      latest = c.in_ok-count.ensures.latest;
      traces_fit = latest_fit kept.traces.items c.count.new.traces.items (kept.changes + 1) c.in_ok-trace.trace was.traces_fit
          c.count.ensures.fits c.in_ok-count.ensures.traces;
    }

-- what the figure has that wasn't explicit is explicit when all is settled
pub returns-clause-points : goal.returns-clause-points
returns-clause-points c =
    let draws = subst (λ (e : SpendableState). Draws c.args.c.now e.state c.args.figure) (sym c.self.view_is) c.requires.draws in
    let kept = c.self.inside in
    let s = state_of kept.drawing.drawing kept.next_id kept.table kept.changes kept.traces.items in
    let (changed, is, settles) = c.in_ok-trace.ensures.redrawn in
    let list = c.in_ok-points.points.items in
    let e = c.redraw.new.drawing.drawing in
    let listed = subst (λ (l : List GridPoint). (q : GridPoint) → Contains list q
    ↔ Contains (points_besides l kept.drawing.drawing.points) q) c.points.ensures c.in_ok-points.ensures.same in
    subst (λ (was : SpendableState). list ≡ points_besides e.points was.state.drawing.points) c.self.view_is
    (points_come c.args.c.now s c.args.figure list changed e c.in_ok-trace.trace draws is settles c.in_ok-points.ensures.ascending listed)

-- the drawing is that of the state
pub returns-in_err-trace-clause-mismatch : goal.returns-in_err-trace-clause-mismatch
returns-in_err-trace-clause-mismatch c =
    let p = err_from_is_err_and c.from_residual-in_err-trace.result c.from_residual-in_err-trace.ensures.1 in
    rw (p.1, p.2) (λ number same.
    let kept = c.self.inside in
    let draws = subst (λ (e : SpendableState). Draws c.args.c.now e.state c.args.figure) (sym c.self.view_is) c.requires.draws in
    let failed : c.in_err-trace.field-0.0 ≡ Mismatch number = cc in
    has_also
    (λ (steps : Bor (List Step)). (e : Drawing) × IsChangedTo c.args.c.now c.args.figure kept.drawing.drawing kept.next_id e
    × Misfits e steps.now number)
    (λ (steps : Bor (List Step)). MisfitsAt c.args.c.now c.args.self.now.state steps.now number) c.args.given
    (λ steps (e, is, fails). subst (λ (e : SpendableState). MisfitsAt c.args.c.now e.state steps.now number) c.self.view_is
    (e, (c.args.figure, draws, is), fails))
    (c.in_err-trace.ensures.mismatch number (ap (λ (e : SettleError). Err e) failed)))
