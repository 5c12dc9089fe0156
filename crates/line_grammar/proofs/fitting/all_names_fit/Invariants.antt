use Rattle.std.proofs.Common.{take}
use Rattle.std.specs.List.{AllByRecursion}
use Rattle.line_grammar.specs.Fitting.{IsName}
use Rattle.line_grammar.proofs.fitting.all_names_fit.Given as goal

-- the names so far fit
abbrev pub invariant-loop-name : goal.invariant-loop-name
invariant-loop-name l = AllByRecursion IsName (take l.name-index l.names)
