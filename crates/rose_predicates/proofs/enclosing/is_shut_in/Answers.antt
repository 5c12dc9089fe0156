use Rattle.grid_base.specs.Odd.{AreSides}
use Rattle.plane_cells.specs.OuterSides.{AreOuterSides}
use Rattle.rose_predicates.proofs.OpenSides.{open_told, zip_length}
use Rattle.rose_predicates.proofs.OuterWays.{closed_told}
use Rattle.rose_predicates.proofs.RegionSides.{borders_of}
use Rattle.rose_predicates.proofs.Truths.{told_by}
use Rattle.rose_predicates.proofs.enclosing.is_shut_in.Goals as goal

-- each segment has its sides by its own border
pub none_is_open-requires-clause-odd_each : goal.none_is_open-requires-clause-odd_each
none_is_open-requires-clause-odd_each c =
    rw c.deref.ensures.value (zip_length (AreSides c.args.inner.now) c.args.inner.now _ c.in_ok-odd.ensures)

-- each segment has its sides by the other
pub none_is_open-requires-clause-one_each : goal.none_is_open-requires-clause-one_each
none_is_open-requires-clause-one_each c =
    rw c.deref-2.ensures.value (zip_length (AreOuterSides c.args.border.now) c.args.inner.now _ c.in_ok-outer.ensures)

-- no odd side is outer, so no point of the area is
pub returns : goal.returns
returns c =
    let a = c.args.border.now in
    let b = c.args.inner.now in
    let h =
    borders_of a b c.requires.noded c.requires.first c.requires.second c.lesser_ends_first.ensures c.lesser_ends_first-2.ensures in
    told_by (told_by (rw c.deref-2.ensures.value at c.none_is_open.ensures) (open_told a b c.in_ok-outer.outer.items h c.in_ok-outer.ensures))
    (closed_told a b h c.requires.second.ascending)
