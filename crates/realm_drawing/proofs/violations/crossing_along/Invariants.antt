use Rattle.std.proofs.Common.{take}
use Rattle.grid_base.specs.Crossing.{Cross}
use Rattle.realm_drawing.specs.Found.{NoLink}
use Rattle.realm_drawing.proofs.violations.crossing_along.Given as goal

-- no link so far crosses t
abbrev pub invariant-loop-i : goal.invariant-loop-i
invariant-loop-i l = NoLink (Cross l.t) (take l.i l.chain)
