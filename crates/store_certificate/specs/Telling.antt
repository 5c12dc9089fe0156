-- The lines of a change, by what its line says and what is known once it is made again. No public clause cites this file.
use Rattle.std.specs.Prelude.{◌≡◌, ◌⊎◌, ℕ, nat_le, List, [], ◌∷◌, ◌++◌, map, filter, Contains}
use Rattle.grid_base.specs.Point.{GridPoint}
use Rattle.grid_base.specs.Drawing.{Drawing}
use Rattle.grid_base.specs.declared.kinds.Step.{Step}
use Rattle.grid_base.specs.declared.original.Original.{Original}
use Rattle.line_grammar.specs.declared.command.Change.{Change}
use Rattle.line_grammar.specs.declared.command.Change.TheVariants.{Unpoint, Delete}
use Rattle.realm_audit.specs.declared.item.Item.{Item}
use Rattle.realm_audit.specs.declared.item.Item.TheVariants as items
use Rattle.hook_chain.specs.Ids.{LacksId}
use Rattle.realm_insert.specs.Lines.{grid_point}
use Rattle.certificate_law.specs.Certificates.{segment_item}

-- the line of what the change takes away, if it takes anything away
abbrev pub lost_items : Change → List Item
lost_items (Unpoint p) = items.Unpoint (grid_point p) ∷ []
lost_items (Delete id) = items.Remove id ∷ []
lost_items c = []

-- the originals with this id and those with a greater one
abbrev pub from_id : ℕ → List Original → List Original
from_id first originals = filter (λ o. nat_le first o.id) originals

-- the lines of the change, which makes these points explicit, brings these originals and has these steps
abbrev pub told_items : Change → List GridPoint → List Original → List Step → List Item
told_items c points originals trace =
    items.Change
    ∷ (lost_items c ++ (map items.Point points ++ (map segment_item originals ++ map items.Step trace)))

-- the line of the original with this id comes last, and where there is none the list is as it was
abbrev pub HasSegmentToo : Drawing → ℕ → List Item → List Item → Type 0
HasSegmentToo d id old new =
    ((o : Original) × Contains d.originals o × (o.id ≡ id) × (new ≡ old ++ segment_item o ∷ []))
    ⊎ (LacksId d.originals id × (new ≡ old))
