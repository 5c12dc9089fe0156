use Rattle.std.proofs.Common.{◌-◌}
use Rattle.grid_base.specs.Point.{point_at}
use Rattle.hook_chain.proofs.Traces.{IsTraced}
use Rattle.hook_chain.proofs.walking.part.Given as goal

-- the points so far are those of the walk
abbrev pub invariant-loop-at : goal.invariant-loop-at
invariant-loop-at l =
    IsTraced l.chart l.start l.fn.end l.fn.x l.line.up l.line.across (point_at l.goal.across l.goal.up)
    (point_at l.at.across l.at.up) l.list.items

-- each turn leads to a later column
abbrev pub decreases-loop-at : goal.decreases-loop-at
decreases-loop-at l = l.goal.across - l.at.across
