use Rattle.std.proofs.Common.{map, All}
use Rattle.std.specs.Map.Iter.{deref}
use Rattle.grid_base.specs.Crossing.{Inside}
use Rattle.realm_drawing.proofs.explicit.ExplicitPoints.inside_from.Given as goal

-- none so far is inside
abbrev pub invariant-loop-p : goal.invariant-loop-p
invariant-loop-p l = All (λ q. Inside q l.s → ⊥) (map deref l.yielded)
