use Rattle.std.proofs.Common.{◌≡◌, ◌+◌, List, ◌++◌, length, sym, subst, ap, ◌∙◌, arith, rules}
use Rattle.grid_base.specs.Point.{GridPoint}
use Rattle.grid_base.specs.Segment.{GridSegment}
use Rattle.line_grammar.specs.declared.command.Change.{Change}
use Rattle.line_grammar.specs.declared.command.Change.TheVariants.{Delete}
use Rattle.realm_drawing.specs.Keyed.{TakesPoint}
use Rattle.realm_insert.specs.Changes.{placed_all}
use Rattle.realm_insert.specs.State.{HasIdsBelow}
use Rattle.realm_insert.specs.Work.{IsCoveredBy, IsPrepared, AddsPoints}
use Rattle.realm_insert.proofs.PlacedLists.{nothing_to_cover}
use Rattle.realm_insert.proofs.PreparedChanges.{prepared_placed, prepared_unmarked, prepared_removed}
use Rattle.realm_insert.proofs.making.prepare.Goals as goal

-- there is no violation before the change
pub mark_all-requires : goal.mark_all-requires
mark_all-requires c = record {
  indexed = c.requires.rest.indexed;
  keyed = c.requires.rest.keyed;
  valid = c.requires.rest.valid;
  covered = nothing_to_cover c.args.drawing.now.drawing c.requires.rest.settled;
}

-- a point is taken
pub returns-in-Unpoint : goal.returns-in-Unpoint
returns-in-Unpoint c =
    let old = c.args.drawing.now in
    let new = c.unmark.new.drawing in
    let index = c.args.index.now in
    let p = c.in-Unpoint.p in
    let taken = subst (λ (q : GridPoint). TakesPoint old new q) c.point_of.ensures c.unmark.ensures.taken in
    let figure = c.args.figure.now in
    let prepared = prepared_unmarked p figure old new c.args.first index taken c.unmark.ensures.rest c.requires.can.ids in
    subst (λ (l : List GridSegment). IsPrepared c.args.c.now figure old.drawing c.args.first new index l) (sym c.new.ensures.items)
    (subst (λ (a : Change). IsPrepared a figure old.drawing c.args.first new index _) (sym c.in-Unpoint.is) prepared)

-- an original is removed
pub returns-in_ok-remove-in-Delete : goal.returns-in_ok-remove-in-Delete
returns-in_ok-remove-in-Delete c =
    let old = c.args.drawing.now in
    let new = c.remove.new.drawing in
    let index = c.remove.new.index in
    let id = c.in-Ok.id in
    let same : id ≡ c.in-Delete.id = first_of (omega arith, cc, search rules) in
    let removed = c.in_ok-remove-in-Delete.ensures in
    let figure = c.args.figure.now in
    let prepared = prepared_removed id figure old new c.args.first index removed.removed removed.rest c.requires.can.ids in
    subst (λ (l : List GridSegment). IsPrepared c.args.c.now figure old.drawing c.args.first new index l)
    (sym c.new-in-Delete.ensures.items)
    (subst (λ (a : Change). IsPrepared a figure old.drawing c.args.first new index _) (sym (c.in-Delete.is ∙ ap Delete (sym same)))
    prepared)

-- points and originals are placed
pub returns-in_ok-extend_from_slice-in_default : goal.returns-in_ok-extend_from_slice-in_default
returns-in_ok-extend_from_slice-in_default c =
    let old = c.args.drawing.now in
    let mid = c.mark_all.new.drawing in
    let new = c.place_all.new.drawing in
    let figure = c.args.figure.now in
    let first = c.args.first in
    let round = c.in_ok-fresh-in_default.fresh.items in
    let placed = c.in_ok-place_all-in_default.ensures in
    let adds = subst (λ (l : List GridPoint). AddsPoints l old mid) c.points.ensures c.in_ok-fresh-in_default.ensures.added in
    let drawn = subst (λ (l : List GridSegment). new.drawing ≡ placed_all mid.drawing first l) c.segments.ensures placed.placed in
    let longer = c.in_ok-extend_from_slice-in_default.ensures.items
    ∙ ap (λ (l : List GridSegment). round ++ l) (c.segments-in_default.ensures ∙ sym c.segments.ensures) in
    let covered = subst (IsCoveredBy new.drawing) (sym longer)
    (placed.covered round c.in_ok-fresh-in_default.ensures.covered) in
    let ids = subst (λ (l : List GridSegment). HasIdsBelow (first + length l) new.drawing) c.segments.ensures placed.ids in
    prepared_placed c.args.c.now figure old mid new first c.place_all.new.index c.extend_from_slice.new.self.items
    c.in_default.not-Unpoint c.in_default.not-Delete adds drawn placed.indexed placed.keyed placed.valid covered ids
