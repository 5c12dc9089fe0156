use Rattle.rose_predicates.proofs.PointSets.{points_shared}
use Rattle.rose_predicates.proofs.Truths.{not_is}
use Rattle.rose_predicates.proofs.of_points.are_disjoint.Goals as goal

-- the same points are common to the lists and to the values
pub returns : goal.returns
returns c = not_is c.share_point.ensures (points_shared c.args.a.now c.args.b.now)
