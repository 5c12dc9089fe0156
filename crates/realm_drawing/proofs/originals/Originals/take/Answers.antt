use Rattle.realm_drawing.proofs.ById.{listing, taken}
use Rattle.std.proofs.Common.{ap, ◌∙◌}
use Rattle.realm_drawing.proofs.originals.Originals.take.Goals as goal

-- the one with the id goes
pub returns : goal.returns
returns c = rw (← c.self.view_is)
    (ap listing c.remove.ensures.entries ∙ taken c.args.id c.self.inside.by_id.entries c.self.invariant)
