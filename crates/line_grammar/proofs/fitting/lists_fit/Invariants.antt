use Rattle.std.proofs.Common.{take}
use Rattle.std.specs.List.{AllByRecursion}
use Rattle.line_grammar.specs.Fitting.{ArePoints}
use Rattle.line_grammar.proofs.fitting.lists_fit.Given as goal

-- the lists so far fit
abbrev pub invariant-loop-path : goal.invariant-loop-path
invariant-loop-path l = AllByRecursion ArePoints (take l.path-index l.paths)
