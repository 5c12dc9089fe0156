use Rattle.rose_overlay.proofs.EndPoints.{ends_same}
use Rattle.rose_predicates.proofs.members.vertices.Goals as goal

-- the same points, in order
pub returns-clause-ends : goal.returns-clause-ends
returns-clause-ends c =
    ends_same c.args.list.now c.in_ok-ends.field-0.items c.ascending_points.result.items c.in_ok-ends.ensures
    c.ascending_points.ensures.same
