use Rattle.std.proofs.Common.{arith}
use Rattle.std.proofs.lemmas.Int.{to_z-of_z}
use Rattle.grid_base.proofs.GridPlaces.{right_at_point}
use Rattle.grid_base.proofs.predicates.is_right_of.Goals as goal

-- the side number is below 0 where the place of the point is on the right
pub returns : goal.returns
returns c =
    let right = right_at_point c.args.s.now c.args.p.now c.cross_of.result c.cross_of.ensures.side in
    grind (arith, to_z-of_z, right, c.cross_of.type_inv)
