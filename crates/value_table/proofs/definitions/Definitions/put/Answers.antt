use Rattle.std.proofs.Common.{◌∷◌, [], ◌++◌, List, ℕ, ap, subst, ◌∙◌}
use Rattle.std.proofs.Common.{sym}
use Rattle.std.specs.Map.{values_of}
use Rattle.value_table.specs.Table.{NamedValues, IsNamed}
use Rattle.value_table.proofs.Numbered.{put_last, put_numbered}
use Rattle.value_table.proofs.definitions.Definitions.put.Goals as goal

-- name and number come together, and nothing stands under the number yet
pub invariant_of-self-in-Ok-insert : goal.invariant_of-self-in-Ok-insert
invariant_of-self-in-Ok-insert c =
    put_numbered _ _ _ c.self.invariant c.args.name.now c.reserve.new.self _ _ c.in-Ok.key _ _
    (subst (λ (table : NamedValues). IsNamed c.args.name.now table → ⊥) (sym c.self.view_is) c.requires)
    c.in-Ok.ensures.0 c.in-Ok.ensures.1 c.reserve.ensures.entries c.in-Ok-insert.ensures.updates
    c.in_default-insert.ensures.updates c.in_default-insert.ensures.entries c.insert.ensures.ordered c.in-Some.ensures.1

-- the greatest number comes last
pub returns-clause-ok : goal.returns-clause-ok
returns-clause-ok c =
    ap values_of c.in_default-insert.ensures.entries
    ∙ put_last c.self.inside.next _ c.self.inside.by_number.entries c.self.invariant.next_above
    ∙ ap (λ (name : List ℕ). values_of c.self.inside.by_number.entries ++ (name, c.args.value) ∷ []) c.in-Ok.ensures.1
    ∙ ap (λ (table : NamedValues). table ++ (c.args.name.now, c.args.value) ∷ []) c.self.view_is
