use Rattle.std.proofs.Common.{◌-◌}
use Rattle.plane_cells.specs.Scan.{IsLeftOf}
use Rattle.plane_cells.proofs.Parts.{IsSplit}
use Rattle.plane_cells.proofs.status.count_below.Given as goal

-- those before `from` are below p, and those from `to` on are not
abbrev pub invariant-loop-from : goal.invariant-loop-from
invariant-loop-from l = IsSplit (IsLeftOf l.border l.p) l.status l.from l.to

abbrev pub decreases-loop-from : goal.decreases-loop-from
decreases-loop-from l = l.to - l.from
