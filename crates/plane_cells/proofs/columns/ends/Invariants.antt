use Rattle.std.proofs.Common.{◌≡◌, take}
use Rattle.plane_cells.specs.Scan.{end_columns}
use Rattle.plane_cells.proofs.columns.ends.Given as goal

abbrev pub invariant-loop-s : goal.invariant-loop-s
invariant-loop-s l = l.columns.items ≡ end_columns (take l.s-index l.border)
