use Rattle.std.proofs.Common.{take}
use Rattle.std.specs.List.{AllByRecursion}
use Rattle.line_grammar.specs.Fitting.{IsKeyed}
use Rattle.line_grammar.proofs.fitting.all_keyed_fit.Given as goal

-- the names and keys so far fit
abbrev pub invariant-loop-keyed : goal.invariant-loop-keyed
invariant-loop-keyed l = AllByRecursion IsKeyed (take l.keyed-index l.names)
