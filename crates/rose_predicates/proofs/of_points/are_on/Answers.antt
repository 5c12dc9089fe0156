use Rattle.rose_predicates.proofs.PointSets.{points_on}
use Rattle.rose_predicates.proofs.Truths.{never, told_by}
use Rattle.rose_predicates.proofs.of_points.are_on.Goals as goal

-- a point off the box is none of these
pub returns-then-one_is_off : goal.returns-then-one_is_off
returns-then-one_is_off c = never (c.one_is_off.ensures.lines c.if-one_is_off.true)

-- the points that are on the lines are ends
pub returns : goal.returns
returns c =
    told_by (rw c.deref.ensures.value at c.all_points_in.ensures)
    (points_on c.args.points.now c.args.lines.now c.in_ok-vertices.vertices.items c.requires.outside c.lesser_ends_first.ensures
    c.in_ok-vertices.ensures.ends)
