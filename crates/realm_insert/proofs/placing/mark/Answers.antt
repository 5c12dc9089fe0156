use Rattle.std.proofs.Common.{List, ◌++◌, ◌∙◌, ap, sym, subst}
use Rattle.grid_base.specs.Segment.{GridSegment}
use Rattle.realm_insert.specs.Work.{IsCoveredBy}
use Rattle.realm_insert.proofs.MarkedPoints.{keyed_marked, indexed_marked}
use Rattle.realm_insert.proofs.PlacedLists.{covered_round, valid_marked}
use Rattle.realm_insert.proofs.placing.mark.Goals as goal

-- the index and the keys are as they were
pub pieces_round-requires : goal.pieces_round-requires
pieces_round-requires c = record {
  indexed = indexed_marked c.args.drawing.now c.add_point.new.self c.args.p c.args.index.now
      c.in_ok-add_point.ensures.added c.requires.indexed;
  keyed = keyed_marked c.args.drawing.now c.add_point.new.self c.args.p c.in_ok-add_point.ensures.added c.requires.keyed;
}

pub returns-clause-indexed : goal.returns-clause-indexed
returns-clause-indexed c =
    indexed_marked c.args.drawing.now c.add_point.new.self c.args.p c.args.index.now c.in_ok-add_point.ensures.added
    c.requires.indexed

pub returns-clause-keyed : goal.returns-clause-keyed
returns-clause-keyed c =
    keyed_marked c.args.drawing.now c.add_point.new.self c.args.p c.in_ok-add_point.ensures.added c.requires.keyed

pub returns-clause-valid : goal.returns-clause-valid
returns-clause-valid c =
    valid_marked c.args.drawing.now c.add_point.new.self c.args.p c.in_ok-add_point.ensures.added c.requires.valid

-- the pieces round the point cover what it makes
pub returns-clause-covered : goal.returns-clause-covered
returns-clause-covered c =
    let new = c.add_point.new.self in
    let list = c.args.list.now.items in
    let covered = covered_round c.args.drawing.now new c.args.p list c.in_ok-round.round.items
    c.in_ok-add_point.ensures.added c.requires.covered c.in_ok-round.ensures.round in
    let longer = c.in_ok-extend_from_slice.ensures.items
    ∙ ap (λ (l : List GridSegment). list ++ l) c.as_slice.ensures.value in
    subst (IsCoveredBy new.drawing) (sym longer) covered
