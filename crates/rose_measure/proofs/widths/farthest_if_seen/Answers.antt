use Rattle.rose_measure.proofs.Pairs.{greatest_from_point}
use Rattle.rose_measure.proofs.widths.farthest_if_seen.Goals as goal

-- each distance from the point is looked at
pub returns : goal.returns
returns g c = greatest_from_point _ _ _ _ _ _ c.farthest_from.ensures
