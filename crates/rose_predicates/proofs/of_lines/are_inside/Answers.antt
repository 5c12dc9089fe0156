use Rattle.rose_predicates.proofs.LinesAndRegions.{lines_in_region}
use Rattle.rose_predicates.proofs.Truths.{never, told_by}
use Rattle.rose_predicates.proofs.of_lines.are_inside.Goals as goal

-- what reaches out of the box isn't inside
pub returns-then-reaches_out : goal.returns-then-reaches_out
returns-then-reaches_out c = never (c.reaches_out.ensures.lines c.if-reaches_out.true c.requires.border.even)

-- each segment of the lines lies in the region
pub returns : goal.returns
returns c =
    told_by (rw c.deref.ensures.value at c.all_segments_in.ensures)
    (lines_in_region c.args.lines.now c.args.border.now c.in_ok-lying.lying.items c.in_ok-lying.ensures.within)
