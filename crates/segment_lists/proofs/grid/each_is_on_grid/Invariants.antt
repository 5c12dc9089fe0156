use Rattle.std.proofs.Common.{All, take}
use Rattle.segment_lists.specs.OnGrid.{IsOnGrid}
use Rattle.segment_lists.proofs.grid.each_is_on_grid.Given as goal

abbrev pub invariant-loop-s : goal.invariant-loop-s
invariant-loop-s l = All IsOnGrid (take l.s-index l.list)
