use Rattle.std.proofs.Common.{◌≡◌, ◌∙◌, rules}
use Rattle.std.specs.Map.{keys_of}
use Rattle.realm_drawing.proofs.ById.{ids_are}
use Rattle.realm_drawing.proofs.originals.Originals.ids.Goals as goal

-- the list has the keys of the map, which are the ids
pub returns : goal.returns
returns c =
    let entries = c.self.inside.by_id.entries in
    let all : c.in_ok-collect.field-0.items ≡ keys_of entries = search rules in
    rw (← c.self.view_is) (all ∙ ids_are entries)
