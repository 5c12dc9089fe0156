use Rattle.rose_predicates.proofs.PointsAndRegions.{points_touch_region}
use Rattle.rose_predicates.proofs.Truths.{always, not_is}
use Rattle.rose_predicates.proofs.of_points.are_outside.Goals as goal

-- points off the box are none of these
pub returns-then-all_are_off : goal.returns-then-all_are_off
returns-then-all_are_off c = always (c.all_are_off.ensures.region c.if-all_are_off.true c.requires.even)

-- the points of the region among them are ends of its border or odd
pub returns : goal.returns
returns c =
    not_is (rw c.deref.ensures.value at c.one_is_of.ensures c.args.border.now (rw c.deref-2.ensures.value c.in_ok-odd.ensures))
    (points_touch_region c.args.points.now c.args.border.now c.in_ok-vertices.vertices.items c.requires.outside
    c.lesser_ends_first.ensures c.in_ok-vertices.ensures.ends)
