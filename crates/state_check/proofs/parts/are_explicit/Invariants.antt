use Rattle.std.proofs.Common.{take, All, Contains}
use Rattle.state_check.proofs.parts.are_explicit.Given as goal

-- the points so far are explicit
abbrev pub invariant-loop-p : goal.invariant-loop-p
invariant-loop-p l = All (Contains l.drawing.drawing.points) (take l.p-index l.points)
