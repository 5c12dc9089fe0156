use Rattle.std.proofs.Common.{take}
use Rattle.realm_drawing.specs.Found.{drawing_of, NoLink, IsViolated}
use Rattle.realm_drawing.proofs.violations.violation_along.Given as goal

-- no link so far is violated
abbrev pub invariant-loop-i : goal.invariant-loop-i
invariant-loop-i l = NoLink (IsViolated (drawing_of l.explicit l.originals)) (take l.i l.chain)
