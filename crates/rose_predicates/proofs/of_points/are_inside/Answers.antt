use Rattle.rose_predicates.proofs.PointsAndRegions.{points_in_region}
use Rattle.rose_predicates.proofs.Truths.{never, told_by}
use Rattle.rose_predicates.proofs.of_points.are_inside.Goals as goal

-- a point off the box is none of these
pub returns-then-one_is_off : goal.returns-then-one_is_off
returns-then-one_is_off c = never (c.one_is_off.ensures.region c.if-one_is_off.true c.requires.even)

-- the points of the region among them are ends of its border or odd
pub returns : goal.returns
returns c =
    told_by (rw c.deref.ensures.value at c.each_is_of.ensures c.args.border.now (rw c.deref-2.ensures.value c.in_ok-odd.ensures))
    (points_in_region c.args.points.now c.args.border.now c.in_ok-vertices.vertices.items c.requires.outside c.lesser_ends_first.ensures
    c.in_ok-vertices.ensures.ends)
