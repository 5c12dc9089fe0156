use Rattle.std.proofs.Common.{◌≡◌, ◌++◌, map, filter}
use Rattle.std.specs.Map.Iter.{deref}
use Rattle.chain_laws.proofs.PointSets.{is_in_box}
use Rattle.realm_drawing.proofs.explicit.ExplicitPoints.list_from.Given as goal

-- the list has what of the points so far is in the box
abbrev pub invariant-loop-p : goal.invariant-loop-p
invariant-loop-p l = l.list.items ≡ l.initial.list.items ++ filter (is_in_box l.s.a l.s.b) (map deref l.yielded)
