use Rattle.std.proofs.Common.{arith}
use Rattle.realm_journal.proofs.handing.bytes_fit.Goals as goal

-- the type of a byte says so
pub returns : goal.returns
returns c = λ i. omega (arith, c.type_inv.bytes i)
