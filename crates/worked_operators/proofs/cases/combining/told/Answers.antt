use Rattle.std.proofs.Common.{sym, subst}
use Rattle.grid_base.specs.Border.{IsEvenBorder}
use Rattle.worked_operators.proofs.cases.combining.told.Goals as goal

-- the border is even
pub sides-requires-clause-even : goal.sides-requires-clause-even
sides-requires-clause-even g c = subst IsEvenBorder (sym c.segments-2.ensures.segments) c.segments-2.ensures.even
