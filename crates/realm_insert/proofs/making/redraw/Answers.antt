use Rattle.std.proofs.Common.{◌+◌, List, Bor, length}
use Rattle.std.proofs.lemmas.Result.{err_from_is_err_and}
use Rattle.grid_base.specs.Drawing.{Drawing}
use Rattle.grid_base.specs.declared.kinds.Step.{Step}
use Rattle.realm_insert.specs.Changes.{IsChangedTo}
use Rattle.realm_insert.specs.Misfits.{Misfits}
use Rattle.realm_insert.proofs.FailedTraces.{has_also}
use Rattle.realm_insert.proofs.StepsTaken.{rests_after, ids_below}
use Rattle.realm_insert.proofs.making.redraw.Goals as goal

-- no violation is left
pub returns-clause-rest : goal.returns-clause-rest
returns-clause-rest c =
    let settled = c.in_ok-settle_by.ensures in
    rests_after c.prepare.new.drawing.drawing c.settle_by.new.drawing c.settle_by.new.index c.in_ok-settle_by.field-0
    settled.settles settled.valid settled.keyed settled.indexed

-- and no step changes an id
pub returns-clause-ids : goal.returns-clause-ids
returns-clause-ids c =
    ids_below c.prepare.new.drawing.drawing c.settle_by.new.drawing.drawing c.in_ok-settle_by.field-0
    (c.args.first + length c.args.figure.now.segments) c.in_ok-settle_by.ensures.settles c.in_ok-fresh.ensures.ids

-- the steps fail from what the change makes of the drawing
pub returns-in_err-settle_by-clause-mismatch : goal.returns-in_err-settle_by-clause-mismatch
returns-in_err-settle_by-clause-mismatch c =
    let p = err_from_is_err_and c.from_residual-in_err-settle_by.result c.from_residual-in_err-settle_by.ensures.1 in
    rw (p.1, p.2) (λ number same.
    let prepared = c.in_ok-fresh.ensures in
    let d = c.args.drawing.now.drawing in
    let made = c.prepare.new.drawing.drawing in
    let changed : IsChangedTo c.args.c.now c.args.figure.now d c.args.first made = record {
      points = prepared.points;
      ascending = c.is_explicit-ascending.ensures.ascending;
      originals = prepared.originals;
    } in
    has_also (λ (steps : Bor (List Step)). Misfits made steps.now number)
    (λ (steps : Bor (List Step)). (e : Drawing) × IsChangedTo c.args.c.now c.args.figure.now d c.args.first e × Misfits e steps.now number)
    c.args.given (λ steps fails. (made, changed, fails)) (c.in_err-settle_by.ensures.mismatch number same))
