use Rattle.grid_base.specs.Point.{OnGrid}
use Rattle.state_check.proofs.Copying.{IsFront}
use Rattle.state_check.proofs.copies.copied_points.Given as goal

-- the points so far are listed
abbrev pub invariant-loop-p : goal.invariant-loop-p
invariant-loop-p l = IsFront OnGrid l.points l.p-index l.list.items
