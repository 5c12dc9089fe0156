use Rattle.chain_laws.proofs.PointSets.{set_has}
use Rattle.realm_drawing.proofs.explicit.ExplicitPoints.has.Goals as goal

-- the look-up finds what the list has
pub returns : goal.returns
returns c = rw (c.contains.ensures, ← c.self.view_is) (set_has c.self.inside.set c.args.p.now)
