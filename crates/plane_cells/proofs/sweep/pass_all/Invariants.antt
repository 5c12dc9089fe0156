use Rattle.plane_cells.proofs.Asking.{IsPassing}
use Rattle.plane_cells.proofs.sweep.pass_all.Given as goal

abbrev pub invariant-loop-index : goal.invariant-loop-index
invariant-loop-index l = IsPassing l.border l.vertices.items l.index l.sweep.status l.sweep.next l.sweep.links.items
    l.sweep.right.items l.list l.sweep.list.now l.sweep.asked.items
