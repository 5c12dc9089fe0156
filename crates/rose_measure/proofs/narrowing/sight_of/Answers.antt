use Rattle.std.proofs.Common.{refl}
use Rattle.rose_measure.proofs.Sights.{seen_in_sight}
use Rattle.rose_measure.proofs.narrowing.sight_of.Goals as goal

-- the reach is as far as each point of the part
pub returns-clause-has : goal.returns-clause-has
returns-clause-has g c = seen_in_sight _ _ _ _ _ _ refl refl refl refl c.reach_of-far.ensures.most
