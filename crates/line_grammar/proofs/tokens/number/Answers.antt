use Rattle.std.proofs.Common.{arith}
use Rattle.line_grammar.specs.Fitting.{is_digit}
use Rattle.line_grammar.proofs.Runs.{run_passes}
use Rattle.line_grammar.proofs.Numbers.{digits_fit}
use Rattle.line_grammar.proofs.tokens.number.Goals as goal

-- what was cut off are the digits at the front
pub value_of-requires-clause-digits : goal.value_of-requires-clause-digits
value_of-requires-clause-digits c = rw (c.split_at.ensures.front, c.digits.ensures.run) (run_passes is_digit 19 c.args.line.now)

-- 19 digits fit
pub value_of-requires-clause-fits : goal.value_of-requires-clause-fits
value_of-requires-clause-fits c = rw (c.split_at.ensures.front, c.digits.ensures.run)
    (let fit = digits_fit c.args.line.now in omega (arith, fit))
