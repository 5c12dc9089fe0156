use Rattle.component_registry.proofs.Uses.{used_by_piece}
use Rattle.component_registry.proofs.registry.Registry.vertex_uses.Goals as goal

-- the count is that of the uses, and every piece has an owner
pub returns-clause-used : goal.returns-clause-used
returns-clause-used c =
    let used = used_by_piece c.self.inside.holdings c.args.p.now c.self.invariant.sound in
    rw (c.uses_of.ensures, c.self.invariant.counted c.args.p.now, ← c.self.view_is) used
