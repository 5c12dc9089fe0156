use Rattle.std.proofs.Common.{ap, ◌∙◌, sym}
use Rattle.std.specs.Ordering.{nat_cmp}
use Rattle.grid_base.specs.Point.{point_cmp}
use Rattle.value_table.specs.Table.{users_of, users_of_point}
use Rattle.value_table.proofs.Changes.{users_copied}
use Rattle.value_table.proofs.table.Table.copied.Goals as goal

-- the counts are those of the same values
pub invariant_of-result : goal.invariant_of-result
invariant_of-result c = record {
  ids_counted = λ id. users_copied nat_cmp _ _ (λ _ _ e. e) (λ _ _ e. e) c.self.inside.ids c.in_ok-clone.field-0
      c.in_ok-clone.ensures.cases id ∙ c.self.invariant.ids_counted id
      ∙ ap (λ table. users_of table id) (sym c.in_ok-copied.ensures.same);
  points_counted = λ p. users_copied point_cmp _ _ (λ _ _ e. e) (λ _ _ e. e) c.self.inside.points c.in_ok-clone-2.field-0
      c.in_ok-clone-2.ensures.cases p ∙ c.self.invariant.points_counted p
      ∙ ap (λ table. users_of_point table p) (sym c.in_ok-copied.ensures.same);
}
