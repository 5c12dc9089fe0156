use Rattle.r_faces.specs.Rims.{AreOddSides}
use Rattle.r_faces.proofs.rims.odd_sides.Given as goal

-- the numbers of the segments so far
abbrev pub invariant-loop-i : goal.invariant-loop-i
invariant-loop-i l = AreOddSides l.border l.classes l.i l.numbers.items
