use Rattle.rose_predicates.proofs.PointSets.{points_touch}
use Rattle.rose_predicates.proofs.Truths.{always, not_is}
use Rattle.rose_predicates.proofs.of_points.are_off.Goals as goal

-- points off the box are none of these
pub returns-then-all_are_off : goal.returns-then-all_are_off
returns-then-all_are_off c = always (c.all_are_off.ensures.lines c.if-all_are_off.true)

-- the points that are on the lines are ends
pub returns : goal.returns
returns c =
    not_is (rw c.deref.ensures.value at c.share_point.ensures)
    (points_touch c.args.points.now c.args.lines.now c.in_ok-vertices.vertices.items c.requires.outside c.lesser_ends_first.ensures
    c.in_ok-vertices.ensures.ends)
