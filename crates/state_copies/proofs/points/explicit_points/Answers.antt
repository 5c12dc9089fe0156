use Rattle.std.proofs.Common.{List, Contains, AllPairs, inl, sym, subst}
use Rattle.grid_base.specs.Point.{GridPoint, IsBefore}
use Rattle.state_copies.proofs.points.explicit_points.Goals as goal

-- an explicit point is a point
pub explicit_among-requires : goal.explicit_among-requires
explicit_among-requires c = record {
  ascending = subst (AllPairs IsBefore) (sym c.as_slice.ensures.value) c.in_ok-points.ensures.ascending;
  all = λ p there. subst (λ (l : List GridPoint). Contains l p) (sym c.as_slice.ensures.value)
      ((c.in_ok-points.ensures.exact p).1 (inl there));
}
