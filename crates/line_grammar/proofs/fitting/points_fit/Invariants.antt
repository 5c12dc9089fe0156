use Rattle.std.proofs.Common.{take}
use Rattle.std.specs.List.{AllByRecursion}
use Rattle.line_grammar.specs.Fitting.{IsPoint}
use Rattle.line_grammar.proofs.fitting.points_fit.Given as goal

-- the places so far fit
abbrev pub invariant-loop-p : goal.invariant-loop-p
invariant-loop-p l = AllByRecursion IsPoint (take l.p-index l.places)
