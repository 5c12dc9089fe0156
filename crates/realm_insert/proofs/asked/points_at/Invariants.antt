use Rattle.std.proofs.Common.{◌≡◌, map, take}
use Rattle.realm_insert.specs.Lines.{grid_point}
use Rattle.realm_insert.proofs.asked.points_at.Given as goal

-- the points so far are listed
abbrev pub invariant-loop-p : goal.invariant-loop-p
invariant-loop-p l = l.points.items ≡ map grid_point (take l.p-index l.places)
