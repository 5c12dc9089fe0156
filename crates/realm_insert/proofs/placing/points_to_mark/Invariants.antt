use Rattle.std.proofs.Common.{◌≡◌, take}
use Rattle.realm_insert.specs.Differences.{points_besides}
use Rattle.realm_insert.proofs.placing.points_to_mark.Given as goal

-- those so far that aren't explicit
abbrev pub invariant-loop-p : goal.invariant-loop-p
invariant-loop-p l = l.points.items ≡ points_besides (take l.p-index l.path) l.drawing.drawing.points
