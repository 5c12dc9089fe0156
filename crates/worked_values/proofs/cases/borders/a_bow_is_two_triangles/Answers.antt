use Rattle.std.proofs.Common.{sym, subst}
use Rattle.grid_base.specs.Border.{IsEvenBorder}
use Rattle.rose_values.specs.Border.{AreSegmentsAscending}
use Rattle.worked_values.proofs.cases.borders.a_bow_is_two_triangles.Goals as goal

-- what a region has as its border ascends
pub cycles-requires-clause-ascending : goal.cycles-requires-clause-ascending
cycles-requires-clause-ascending g c = subst AreSegmentsAscending (sym c.segments.ensures.segments) c.segments.ensures.ascending

-- and is even
pub cycles-requires-clause-even : goal.cycles-requires-clause-even
cycles-requires-clause-even g c = subst IsEvenBorder (sym c.segments.ensures.segments) c.segments.ensures.even
