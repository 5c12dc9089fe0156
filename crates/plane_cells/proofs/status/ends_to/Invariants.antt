use Rattle.std.proofs.Common.{◌-◌, length}
use Rattle.plane_cells.proofs.Parts.{AreEnds}
use Rattle.plane_cells.proofs.status.ends_to.Given as goal

abbrev pub invariant-loop-to : goal.invariant-loop-to
invariant-loop-to l = AreEnds l.border l.p l.from l.to l.status

abbrev pub decreases-loop-to : goal.decreases-loop-to
decreases-loop-to l = length l.status - l.to
