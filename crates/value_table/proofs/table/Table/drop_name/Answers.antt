use Rattle.std.proofs.Common.{sym, subst, ◌∙◌}
use Rattle.std.specs.Ordering.{nat_cmp}
use Rattle.grid_base.specs.Point.{point_cmp}
use Rattle.value_table.specs.Value.{names_id, names_point}
use Rattle.value_table.specs.Table.{NamedValues}
use Rattle.value_table.specs.Kept.{CountsUses}
use Rattle.value_table.proofs.Numbered.{without-none}
use Rattle.value_table.proofs.Changes.{counted_enough, counted_fewer}
use Rattle.value_table.proofs.table.Table.drop_name.Goals as goal

-- the value that goes is one of those that are counted
pub forget-requires-clause-ids_used : goal.forget-requires-clause-ids_used
forget-requires-clause-ids_used c = λ id.
    counted_enough nat_cmp id (names_id id) c.args.name.now c.in-Some.v c.self.inside.definitions c.self.inside.ids
    (c.self.invariant.ids_counted id) (sym c.in-Some.ensures.value)

pub forget-requires-clause-points_used : goal.forget-requires-clause-points_used
forget-requires-clause-points_used c = λ p.
    counted_enough point_cmp p (names_point p) c.args.name.now c.in-Some.v c.self.inside.definitions c.self.inside.points
    (c.self.invariant.points_counted p) (sym c.in-Some.ensures.value)

-- the counts are those of the other values
pub invariant_of-self : goal.invariant_of-self
invariant_of-self c =
    let there = sym c.in-Some.ensures.value in
    record {
      ids_counted = λ id. counted_fewer nat_cmp id (names_id id) c.args.name.now c.in-Some.v c.self.inside.definitions
          c.self.inside.ids (c.self.invariant.ids_counted id) c.forget.new.ids c.take.new.self there (c.forget.ensures.ids id)
          c.take.ensures.taken;
      points_counted = λ p. counted_fewer point_cmp p (names_point p) c.args.name.now c.in-Some.v c.self.inside.definitions
          c.self.inside.points (c.self.invariant.points_counted p) c.forget.new.points c.take.new.self there
          (c.forget.ensures.points p) c.take.ensures.taken;
    }

-- nothing goes where the name isn't there
pub invariant_of-self-in-None : goal.invariant_of-self-in-None
invariant_of-self-in-None c =
    let table = c.self.inside.definitions in
    let same = c.take.ensures.taken ∙ (without-none c.args.name.now table (sym c.in-None.ensures.value)).0 in
    subst (λ (t : NamedValues). CountsUses t c.self.inside.ids c.self.inside.points) (sym same) c.self.invariant
