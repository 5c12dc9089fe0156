use Rattle.std.proofs.Common.{List, ℕ, map, subst, ◌∙◌}
use Rattle.std.specs.Map.Iter.{deref}
use Rattle.value_table.specs.Table.{NamedValues, IsNamed}
use Rattle.value_table.proofs.Numbering.{distinct_names}
use Rattle.value_table.proofs.NewNames.{next_new}
use Rattle.value_table.proofs.definitions.Definitions.copied.Goals as goal

-- names are distinct, so the copy hasn't the next
pub put-requires : goal.put-requires
put-requires c = λ named.
    let start = c.into_iter-definition-iterator.ensures.into_iter_gives ∙ c.values-definition-items.ensures.rest in
    let there = subst (λ (table : NamedValues). IsNamed c.name.result.now table) c.loop-definition.invariant named in
    next_new deref _ _ _ _ c.loop-definition.yielded _ c.in-Some.definition start c.loop-definition.yielded_by c.in-Some.is
    c.next.ensures.steps (distinct_names _ _ _ c.self.invariant)
    (subst (λ (name : List ℕ). IsNamed name (map deref c.loop-definition.yielded)) c.name.ensures there)
