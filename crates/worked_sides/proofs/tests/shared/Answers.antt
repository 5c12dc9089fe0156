use Rattle.std.proofs.Common.{sym, subst}
use Rattle.grid_base.specs.Border.{IsEvenBorder}
use Rattle.worked_sides.proofs.tests.shared.Goals as goal

-- the border of a region is even
pub sides_of_all-requires-clause-even : goal.sides_of_all-requires-clause-even
sides_of_all-requires-clause-even g c κs within = subst IsEvenBorder (sym c.segments-border.ensures.segments) c.segments-border.ensures.even
