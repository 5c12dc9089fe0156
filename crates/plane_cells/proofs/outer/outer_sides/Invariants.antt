use Rattle.std.proofs.Common.{take}
use Rattle.std.specs.List.{AllZip}
use Rattle.plane_cells.specs.OuterSides.{AreOuterSides}
use Rattle.plane_cells.proofs.outer.outer_sides.Given as goal

-- the answers, as far as the loop has come
abbrev pub invariant-loop-s : goal.invariant-loop-s
invariant-loop-s l = AllZip (AreOuterSides l.border) (take l.s-index l.list) l.answers.items
