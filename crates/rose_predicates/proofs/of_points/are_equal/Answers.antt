use Rattle.grid_base.specs.Point.{is_point}
use Rattle.grid_base.proofs.Orders.{is_point-itself, is_point-same}
use Rattle.rose_predicates.proofs.PointSets.{points_equal}
use Rattle.rose_predicates.proofs.Truths.{lists_told, same_told, told_by}
use Rattle.rose_predicates.proofs.of_points.are_equal.Goals as goal

-- ascending lists with the same points are one
pub returns : goal.returns
returns c =
    told_by (same_told c.eq.ensures (lists_told is_point is_point-same is_point-itself c.args.a.now c.args.b.now))
    (points_equal c.args.a.now c.args.b.now c.requires.ascending_first c.requires.ascending_second)
