use Rattle.std.proofs.Common.{◌-◌, length}
use Rattle.plane_cells.proofs.Asking.{IsAsking}
use Rattle.plane_cells.proofs.sweep.ask.Given as goal

abbrev pub invariant-loop-sweep : goal.invariant-loop-sweep
invariant-loop-sweep l =
    IsAsking l.border l.vertices l.index l.sweep.status l.sweep.next l.sweep.links.items l.sweep.right.items l.initial.sweep.list.now
    l.sweep.list.now l.sweep.asked.items

abbrev pub decreases-loop-sweep : goal.decreases-loop-sweep
decreases-loop-sweep l = length l.sweep.list.now - length l.sweep.asked.items
