use Rattle.std.proofs.Common.{◌∙◌, ap, map}
use Rattle.realm_drawing.specs.ById.{chain_of}
use Rattle.realm_drawing.proofs.ChainWalks.{walk_is}
use Rattle.realm_drawing.proofs.originals.Originals.chains_from.Goals as goal

-- the walk is along the part of the map
pub returns : goal.returns
returns c = rw (← c.self.view_is)
    (c.new.ensures ∙ ap (map chain_of) (c.range.ensures.between tt) ∙ walk_is c.args.id c.self.inside.by_id.entries)
