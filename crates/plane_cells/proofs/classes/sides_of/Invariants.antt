use Rattle.plane_cells.specs.Numbered.{numbered}
use Rattle.plane_cells.specs.OtherNumbers.{HasNumbersIn}
use Rattle.plane_cells.proofs.Pushed.{EachAt}
use Rattle.plane_cells.proofs.classes.sides_of.Given as goal

-- the numbers of the segments that the loop has passed
abbrev pub invariant-loop-s : goal.invariant-loop-s
invariant-loop-s l = EachAt (λ i n. HasNumbersIn l.ascending l.sides (numbered l.list i) n) (record { left = 0; right = 0 }) l.s-index
    l.found.items
