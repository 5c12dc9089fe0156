use Rattle.std.proofs.Common.{sym, subst}
use Rattle.grid_base.specs.Border.{IsEvenBorder}
use Rattle.worked_sides.proofs.tests.swept.Goals as goal

-- the border of a region is even
pub all_sides_by-requires-clause-even : goal.all_sides_by-requires-clause-even
all_sides_by-requires-clause-even g c = subst IsEvenBorder (sym c.segments-border.ensures.segments) c.segments-border.ensures.even
