use Rattle.std.proofs.Common.{◌+◌, ◌<◌, AllPairs, sym, ap, subst, ◌∙◌}
use Rattle.std.proofs.lemmas.Result.{on_ok_weaker}
use Rattle.std.specs.Ordering.{nat_cmp}
use Rattle.grid_base.specs.Point.{IsBefore, point_cmp}
use Rattle.value_table.specs.Value.{ids_among, points_among}
use Rattle.value_table.specs.Users.{users_in, times_among}
use Rattle.value_table.proofs.Counts.{fits_once, id_at_most_once, point_at_most_once, id_times, point_times}
use Rattle.value_table.proofs.users.note.Goals as goal

-- what ascends stands at most once
pub count_up-requires : goal.count_up-requires
count_up-requires c = record {
  fits = λ p.
      let points = c.points.result.now in
      let ascend = subst (AllPairs IsBefore) (sym c.points.ensures.points) c.points.ensures.ascending in
      let once = point_at_most_once points ascend p in
      fits_once (users_in point_cmp c.args.points.now p) (times_among point_cmp points p) (c.requires.points_fit p) once;
}

pub count_up-requires-in-Ids : goal.count_up-requires-in-Ids
count_up-requires-in-Ids c = record {
  fits = λ id.
      let ids = c.ids.result.now in
      let ascend = subst (AllPairs (λ m n. m < n)) (sym c.ids.ensures.ids) c.ids.ensures.ascending in
      let once = id_at_most_once ids ascend id in
      fits_once (users_in nat_cmp c.args.ids.now id) (times_among nat_cmp ids id) (c.requires.ids_fit id) once;
}

-- so what is named is counted once more
pub returns-in-Points-clause-points : goal.returns-in-Points-clause-points
returns-in-Points-clause-points c =
    on_ok_weaker c.count_up.result (λ more p.
    let are = c.points.ensures.points ∙ sym (ap points_among c.in-Points.is) in
    let ascend = subst (AllPairs IsBefore) (sym c.points.ensures.points) c.points.ensures.ascending in
    let once = point_times c.args.v.now c.points.result.now are ascend p in
    more p ∙ ap (λ n. users_in point_cmp c.args.points.now p + n) once) c.count_up.ensures.more

pub returns-in-Ids-clause-ids : goal.returns-in-Ids-clause-ids
returns-in-Ids-clause-ids c =
    on_ok_weaker c.count_up-in-Ids.result (λ more id.
    let are = c.ids.ensures.ids ∙ sym (ap ids_among c.in-Ids.is) in
    let ascend = subst (AllPairs (λ m n. m < n)) (sym c.ids.ensures.ids) c.ids.ensures.ascending in
    let once = id_times c.args.v.now c.ids.result.now are ascend id in
    more id ∙ ap (λ n. users_in nat_cmp c.args.ids.now id + n) once) c.count_up-in-Ids.ensures.more
