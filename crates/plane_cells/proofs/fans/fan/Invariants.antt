use Rattle.std.proofs.Common.{length, ◌-◌}
use Rattle.plane_cells.specs.Scan.{IsFanTo}
use Rattle.plane_cells.proofs.fans.fan.Given as goal

abbrev pub invariant-loop-i : goal.invariant-loop-i
invariant-loop-i l = IsFanTo l.border l.v l.next l.i l.fan

abbrev pub decreases-loop-i : goal.decreases-loop-i
decreases-loop-i l = length l.border - l.i
