use Rattle.std.proofs.Common.{subst}
use Rattle.grid_base.specs.Border.{IsEvenBorder}
use Rattle.rose_values.specs.Border.{AreSegmentsAscending}
use Rattle.rose_values.proofs.regions.RegionsValue.into_segments.Goals as goal

-- every border ascends
pub returns-clause-ascending : goal.returns-clause-ascending
returns-clause-ascending c = subst AreSegmentsAscending c.self.view_is c.self.invariant.ascending

-- and is even
pub returns-clause-even : goal.returns-clause-even
returns-clause-even c = subst IsEvenBorder c.self.view_is c.self.invariant.even
