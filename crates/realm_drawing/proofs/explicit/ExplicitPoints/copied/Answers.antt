use Rattle.std.proofs.Common.{AllPairs, sym, subst}
use Rattle.grid_base.specs.Point.{IsBefore}
use Rattle.realm_drawing.proofs.Copies.{same_points}
use Rattle.realm_drawing.proofs.explicit.ExplicitPoints.copied.Goals as goal

-- the same points ascend
pub invariant_of-result : goal.invariant_of-result
invariant_of-result c =
    let same = same_points c.self.inside.set.keys c.in_ok-clone.field-0.keys c.in_ok-clone.ensures.cases in
    subst (AllPairs IsBefore) (sym same) c.self.invariant
