use Rattle.plane_cells.specs.OtherNumbers.{HasNumber}
use Rattle.plane_cells.proofs.Pushed.{EachAt}
use Rattle.plane_cells.proofs.numbers.side_numbers.Given as goal

abbrev pub invariant-loop-i : goal.invariant-loop-i
invariant-loop-i l = EachAt (HasNumber l.labels l.right) (record { left = 0; right = 0 }) l.i l.sides.items
