use Rattle.realm_drawing.proofs.ById.{chains_are}
use Rattle.realm_drawing.proofs.originals.Originals.placed.Goals as goal

-- the chains are those of the map
pub returns-clause-chains : goal.returns-clause-chains
returns-clause-chains c = rw (c.values.ensures.rest, ← c.self.view_is) (chains_are c.self.inside.by_id.entries)
