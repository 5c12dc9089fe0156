use Rattle.std.proofs.Common.{◌≡◌, ◌≤◌, ◌+◌, ◌-◌, drop}
use Rattle.line_grammar.specs.Reading.{run, test_of}
use Rattle.line_grammar.proofs.tokens.run_of.Given as goal

-- the bytes so far and those to come are all
abbrev pub invariant-loop-i : goal.invariant-loop-i
invariant-loop-i l =
    (l.i ≤ l.most) × (l.i + run (test_of l.alphabet) (l.most - l.i) (drop l.i l.line) ≡ run (test_of l.alphabet) l.most l.line)
