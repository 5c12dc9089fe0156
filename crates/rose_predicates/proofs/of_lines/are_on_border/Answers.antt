use Rattle.rose_predicates.proofs.PointSets.{lines_inside}
use Rattle.rose_predicates.proofs.Truths.{told_by}
use Rattle.rose_predicates.proofs.of_lines.are_on_border.Goals as goal

-- the middle of a segment is on no other segment
pub returns : goal.returns
returns c =
    told_by c.all_segments_in.ensures
    (lines_inside c.args.lines.now c.args.border.now c.requires.noded c.lesser_ends_first.ensures)
