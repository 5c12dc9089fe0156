use Rattle.std.proofs.Common.{◌≡◌, take}
use Rattle.plane_cells.specs.Rims.{rims}
use Rattle.plane_cells.proofs.interiors.rims_of.Given as goal

abbrev pub invariant-loop-i : goal.invariant-loop-i
invariant-loop-i l = l.list.items ≡ rims (take l.i l.border) (take l.i l.numbers)
