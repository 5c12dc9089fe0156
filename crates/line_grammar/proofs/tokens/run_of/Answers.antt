use Rattle.std.proofs.Common.{◌≡◌, get_or, true, false, arith}
use Rattle.line_grammar.specs.Reading.{test_of}
use Rattle.line_grammar.proofs.Runs.{run_goes, run_stops, run_full, run_ended}
use Rattle.line_grammar.proofs.tokens.run_of.Goals as goal

-- no more are counted
pub returns-then-i-most-clause-run : goal.returns-then-i-most-clause-run
returns-then-i-most-clause-run c =
    let none = run_full (test_of c.args.alphabet) c.args.most c.args.line.now c.loop-i.i (omega arith) in
    omega (arith, none, c.loop-i.invariant.1)

-- the run ends here
pub returns-then-not-is_of-clause-run : goal.returns-then-not-is_of-clause-run
returns-then-not-is_of-clause-run c =
    let test = test_of c.args.alphabet in
    let fails : test (get_or c.args.line.now c.loop-i.i 0) ≡ false = grind (arith, c.is_of.ensures, c.if-not-is_of.true) in
    let none = run_stops test c.args.most c.args.line.now c.loop-i.i (omega arith) fails in
    omega (arith, none, c.loop-i.invariant.1)

-- the run has one byte more
pub loop-i-preserved : goal.loop-i-preserved
loop-i-preserved c =
    let test = test_of c.args.alphabet in
    let passes : test (get_or c.args.line.now c.loop-i.i 0) ≡ true = grind (arith, c.is_of.ensures, c.if-not-is_of.false) in
    let more = run_goes test c.args.most c.args.line.now c.loop-i.i (omega arith) (omega arith) passes in
    (omega arith, omega (arith, more, c.loop-i.invariant.1))

-- the line ends
pub returns-clause-run : goal.returns-clause-run
returns-clause-run c =
    let none = run_ended (test_of c.args.alphabet) c.args.most c.args.line.now c.loop-i.i (omega arith) in
    omega (arith, none, c.loop-i.invariant.1)
