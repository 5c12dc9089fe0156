use Rattle.rose_measure.proofs.Sights.{narrowed_by_sight}
use Rattle.rose_measure.proofs.narrowing.narrowed.Goals as goal

-- nothing in sight is farther from a point that is left out than what was found
pub returns-clause-narrowed : goal.returns-clause-narrowed
returns-clause-narrowed g c =
    narrowed_by_sight _ _ _ _ _ _ _ _ _ c.sight_of-sight.ensures.has c.around_far-bounds.ensures c.trimmed-list.ensures.trimmed
