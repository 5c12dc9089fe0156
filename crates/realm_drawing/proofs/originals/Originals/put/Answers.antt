use Rattle.std.proofs.Common.{ap, ◌∙◌}
use Rattle.realm_drawing.specs.declared.originals.Placed.{Placed}
use Rattle.realm_drawing.proofs.ById.{listing, put_last}
use Rattle.realm_drawing.proofs.originals.Originals.put.Goals as goal

-- the new one comes last
pub returns-clause-ok : goal.returns-clause-ok
returns-clause-ok c =
    let placed : Placed = record { line = c.args.line; chain = c.args.chain } in
    let above = rw (← c.self.view_is) at c.requires.id_above in
    rw (← c.self.view_is)
    (ap listing c.in_ok-insert.ensures.entries ∙ put_last c.args.id placed c.self.inside.by_id.entries above)
