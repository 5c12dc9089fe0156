use Rattle.std.proofs.Common.{subst}
use Rattle.rose_values.specs.Border.{AreSegmentsAscending}
use Rattle.rose_values.proofs.lines.LinesValue.into_segments.Goals as goal

-- the list of every value ascends
pub returns-clause-ascending : goal.returns-clause-ascending
returns-clause-ascending c = subst AreSegmentsAscending c.self.view_is c.self.invariant.0
