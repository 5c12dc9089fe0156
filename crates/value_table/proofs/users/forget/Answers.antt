use Rattle.std.proofs.Common.{◌+◌, ◌≤◌, sym, ap, ◌∙◌, subst}
use Rattle.std.specs.Ordering.{nat_cmp}
use Rattle.grid_base.specs.Point.{point_cmp}
use Rattle.value_table.specs.Users.{users_in}
use Rattle.value_table.proofs.Counts.{id_times, point_times}
use Rattle.value_table.proofs.users.forget.Goals as goal

-- what ascends stands at most once
pub count_down-requires : goal.count_down-requires
count_down-requires c = record {
  used = λ id.
      let once = id_times c.args.v c.ids.result.now c.ids.ensures.ids c.ids.ensures.ascending id in
      subst (λ n. n ≤ users_in nat_cmp c.args.ids.now id) (sym once) (c.requires.ids_used id);
}

pub count_down-requires-2 : goal.count_down-requires-2
count_down-requires-2 c = record {
  used = λ p.
      let once = point_times c.args.v c.points.result.now c.points.ensures.points c.points.ensures.ascending p in
      subst (λ n. n ≤ users_in point_cmp c.args.points.now p) (sym once) (c.requires.points_used p);
}

-- so what is named is counted once less
pub returns-clause-ids : goal.returns-clause-ids
returns-clause-ids c = λ id.
    let once = id_times c.args.v c.ids.result.now c.ids.ensures.ids c.ids.ensures.ascending id in
    ap (λ n. users_in nat_cmp c.count_down.new.counts id + n) (sym once) ∙ c.count_down.ensures id

pub returns-clause-points : goal.returns-clause-points
returns-clause-points c = λ p.
    let once = point_times c.args.v c.points.result.now c.points.ensures.points c.points.ensures.ascending p in
    ap (λ n. users_in point_cmp c.count_down-2.new.counts p + n) (sym once) ∙ c.count_down-2.ensures p
