use Rattle.std.proofs.Common.{take}
use Rattle.plane_cells.proofs.Rights.{AreRights}
use Rattle.plane_cells.proofs.sweep.set_rights.Given as goal

abbrev pub invariant-loop-k : goal.invariant-loop-k
invariant-loop-k l = AreRights (take l.k l.fan) l.under l.initial.right.items l.right.items l.label
