use Rattle.std.proofs.Common.{◌≡◌, ◌-◌, None, List, length, sym, ap, subst, ◌∙◌}
use Rattle.std.specs.List.{slice_get}
use Rattle.grid_base.specs.Segment.{GridSegment}
use Rattle.realm_insert.specs.Work.{IsCoveredBy}
use Rattle.realm_insert.proofs.Covering.{covered_to_the_end}
use Rattle.realm_insert.proofs.settling.next_step.Goals as goal
use Rattle.realm_insert.proofs.settling.next_step.Goals.{then-is_some+in_ok-found, else-is_some+in_ok-found-2}

-- either search leaves a list that covers each violation
pub returns-then-is_some-2-clause-covered : goal.returns-then-is_some-2-clause-covered
returns-then-is_some-2-clause-covered c =
    let covers : List GridSegment → Type 0 = IsCoveredBy c.args.drawing.now.drawing in
    elim c.if-is_some.branch [
      | then-is_some+in_ok-found w ↦ subst covers (sym (ap (λ v. v.items) w.fresh-is)) w.in_ok-found.ensures.covered
      | else-is_some+in_ok-found-2 w ↦ subst covers (sym (ap (λ v. v.items) w.fresh-is)) w.in_ok-found-2.ensures.covered
    ]

pub loop-piece-preserved : goal.loop-piece-preserved
loop-piece-preserved c =
    let covers : List GridSegment → Type 0 = IsCoveredBy c.args.drawing.now.drawing in
    elim c.if-is_some.branch [
      | then-is_some+in_ok-found w ↦ subst covers (sym (ap (λ v. v.items) w.fresh-is)) w.in_ok-found.ensures.covered
      | else-is_some+in_ok-found-2 w ↦ subst covers (sym (ap (λ v. v.items) w.fresh-is)) w.in_ok-found-2.ensures.covered
    ]

-- the list is empty
pub returns-clause-found : goal.returns-clause-found
returns-clause-found c =
    let list = c.as_slice.result.now in
    let none = sym c.last.ensures.value ∙ sym c.copied.ensures ∙ c.in_default.is in
    let no_last = subst (λ (l : List GridSegment). slice_get l (length l - 1) ≡ None) c.as_slice.ensures.value none in
    covered_to_the_end c.args.drawing.now.drawing c.loop-piece.fresh.items no_last c.loop-piece.invariant
