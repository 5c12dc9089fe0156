use Rattle.r_faces.specs.Rounds.{AreBeyond}
use Rattle.r_faces.proofs.bounds.other_numbers.Given as goal

-- the numbers of the segments so far
abbrev pub invariant-loop-i : goal.invariant-loop-i
invariant-loop-i l = AreBeyond l.classes l.face l.i l.numbers.items
