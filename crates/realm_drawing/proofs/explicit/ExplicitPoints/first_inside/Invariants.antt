use Rattle.std.proofs.Common.{◌-◌}
use Rattle.realm_drawing.specs.Scans.{Reaches, NoneBefore}
use Rattle.realm_drawing.proofs.explicit.ExplicitPoints.first_inside.Given as goal

-- none in the columns before is inside
abbrev pub invariant-loop-found : goal.invariant-loop-found
invariant-loop-found l = Reaches l.s l.column × NoneBefore l.self l.s l.column

-- fewer columns are left each time
abbrev pub decreases-loop-found : goal.decreases-loop-found
decreases-loop-found l = l.s.b.x - l.column
