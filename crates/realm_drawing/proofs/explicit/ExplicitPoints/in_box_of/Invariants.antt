use Rattle.std.proofs.Common.{◌-◌}
use Rattle.realm_drawing.specs.Scans.{Reaches, ListsBefore}
use Rattle.realm_drawing.proofs.explicit.ExplicitPoints.in_box_of.Given as goal

-- those in the columns before are listed
abbrev pub invariant-loop-list : goal.invariant-loop-list
invariant-loop-list l = Reaches l.s l.column × ListsBefore l.self l.s l.column l.list.items

-- fewer columns are left each time
abbrev pub decreases-loop-list : goal.decreases-loop-list
decreases-loop-list l = l.s.b.x - l.column
