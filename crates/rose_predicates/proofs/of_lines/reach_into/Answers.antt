use Rattle.rose_predicates.proofs.LinesAndRegions.{laid, reach_told}
use Rattle.rose_predicates.proofs.Truths.{never, not_told, told_by}
use Rattle.rose_predicates.proofs.of_lines.reach_into.Goals as goal

-- nothing of what is in one box is strictly inside another beside it
pub returns-then-lie_beside : goal.returns-then-lie_beside
returns-then-lie_beside c = never (c.lie_beside.ensures.lines c.if-lie_beside.true c.requires.border.even)

-- a segment lies in the region that isn't one of its border
pub returns : goal.returns
returns c =
    let h =
    laid c.args.lines.now c.args.border.now c.requires.noded c.requires.border c.lesser_ends_first.ensures
    c.lesser_ends_first-2.ensures in
    told_by (not_told (rw c.deref.ensures.value at c.all_segments_in.ensures))
    (reach_told c.args.lines.now c.args.border.now c.in_ok-lying.lying.items h c.in_ok-lying.ensures.within)
