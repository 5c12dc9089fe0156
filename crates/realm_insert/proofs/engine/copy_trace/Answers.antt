use Rattle.std.proofs.Common.{arith}
use Rattle.realm_insert.proofs.engine.copy_trace.Goals as goal

-- a number is one of 64 bits
pub returns-clause-number : goal.returns-clause-number
returns-clause-number c = omega (arith, c.number_of-number.ensures)
