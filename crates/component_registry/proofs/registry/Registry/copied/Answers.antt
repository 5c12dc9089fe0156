use Rattle.component_registry.proofs.Copies.{counted_copied}
use Rattle.component_registry.proofs.registry.Registry.copied.Goals as goal

-- the counts are those of the same pieces
pub invariant_of-result : goal.invariant_of-result
invariant_of-result c = rw (c.in_ok-copied.ensures.same)
    (counted_copied c.self.inside.holdings _ _ c.self.inside.added c.in_ok-clone.ensures.cases c.self.invariant)
