use Rattle.std.proofs.Common.{ap, ◌∙◌}
use Rattle.value_table.specs.Table.{users_of_point}
use Rattle.value_table.proofs.table.Table.users_of_point.Goals as goal

-- the count is kept
pub returns : goal.returns
returns c =
    let p = c.args.p.now in
    c.count_of.ensures ∙ c.self.invariant.points_counted p ∙ ap (λ table. users_of_point table p) c.self.view_is
