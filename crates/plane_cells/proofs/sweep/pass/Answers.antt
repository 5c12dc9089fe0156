use Rattle.std.proofs.Common.{arith, ◌≡◌, ◌∙◌, sym, ap, subst, ℕ, List, slice_index, ◌+◌, ◌-◌, ◌^◌, ◌<◌, length, take, drop, ◌++◌}
use Rattle.std.proofs.lemmas.List.{get_or-drop, length-drop}
use Rattle.plane_cells.specs.Steps.{label_over}
use Rattle.plane_cells.specs.Numbered.{numbered}
use Rattle.plane_cells.specs.Swept.{wall_before}
use Rattle.plane_cells.proofs.Passing.{vertex_fits, sorted_here, next_here, small_here, fan_small, fan_places, fan_once, passed}
use Rattle.plane_cells.proofs.sweep.pass.Goals as goal

-- the vertex is an end, and so on the grid
pub point_at-v-requires : goal.point_at-v-requires
point_at-v-requires c = vertex_fits c.args.border.now c.args.vertices.now c.args.index c.requires.realm c.requires.vertices c.requires.index

pub count_below-below-requires-clause-sorted : goal.count_below-below-requires-clause-sorted
count_below-below-requires-clause-sorted c =
    let s = c.args.sweep.now in
    sorted_here c.args.border.now c.args.vertices.now c.args.index c.point_at-v.result s.status s.next s.links.items s.right.items
    s.list.now s.asked.items c.requires.realm c.requires.vertices c.requires.index c.point_at-v.ensures.on_grid
    c.point_at-v.ensures.column c.requires.swept

pub fan-requires-clause-next : goal.fan-requires-clause-next
fan-requires-clause-next c =
    let s = c.args.sweep.now in
    next_here c.args.border.now c.args.vertices.now c.args.index c.point_at-v.result s.status s.next s.links.items s.right.items
    s.list.now s.asked.items c.requires.realm c.requires.vertices c.requires.index c.point_at-v.ensures.on_grid
    c.point_at-v.ensures.column c.requires.swept

pub label-under-requires-clause-fits : goal.label-under-requires-clause-fits
label-under-requires-clause-fits c =
    let s = c.args.sweep.now in
    small_here c.args.border.now (wall_before c.args.vertices.now c.args.index) s.status s.next s.links.items s.right.items
    s.list.now s.asked.items (2 ^ 63) c.requires.swept (omega (arith, s.right.small, s.right.ok))

pub label-over-requires-clause-fits : goal.label-over-requires-clause-fits
label-over-requires-clause-fits c =
    let s = c.args.sweep.now in
    small_here c.args.border.now (wall_before c.args.vertices.now c.args.index) s.status s.next s.links.items s.right.items
    s.list.now s.asked.items (2 ^ 63) c.requires.swept (omega (arith, s.right.small, s.right.ok))

pub last_label-other-requires : goal.last_label-other-requires
last_label-other-requires c =
    let s = c.args.sweep.now in
    record {
      fits = fan_small c.args.border.now c.point_at-v.result s.next c.in_ok-fan.fan (2 ^ 63) c.in_ok-fan.ensures
          (omega (arith, s.right.small, s.right.ok, c.requires.swept.places));
    }

pub set_rights-requires-clause-places : goal.set_rights-requires-clause-places
set_rights-requires-clause-places c =
    let s = c.args.sweep.now in
    fan_places c.args.border.now (wall_before c.args.vertices.now c.args.index) s.status s.next s.links.items s.right.items
    s.list.now s.asked.items c.point_at-v.result c.in_ok-fan.fan c.requires.swept c.in_ok-fan.ensures

pub set_rights-requires-clause-once : goal.set_rights-requires-clause-once
set_rights-requires-clause-once c =
    fan_once c.args.border.now c.point_at-v.result c.args.sweep.now.next c.in_ok-fan.fan c.in_ok-fan.ensures

pub set_rights-requires-clause-fits : goal.set_rights-requires-clause-fits
set_rights-requires-clause-fits c =
    let s = c.args.sweep.now in
    fan_small c.args.border.now c.point_at-v.result s.next c.in_ok-fan.fan (2 ^ 63) c.in_ok-fan.ensures
    (omega (arith, s.right.small, s.right.ok, c.requires.swept.places))

-- what was found at the vertex leads the sweep behind it
pub returns-clause-swept : goal.returns-clause-swept
returns-clause-swept c =
    let s = c.args.sweep.now in
    let B = c.args.border.now in
    let V = c.args.vertices.now in
    let v = c.point_at-v.result in
    let m = c.count_below-below.result in
    let behind = c.ends_to-behind.result in
    let e = behind - m in
    let there : m + (behind - m) ≡ behind = omega (arith, c.ends_to-behind.ensures.order) in
    let F = c.in_ok-fan.fan in
    let stop : behind - m < length (drop m s.status) → (numbered B (slice_index (drop m s.status) (behind - m))).b ≡ v → ⊥
    = λ l g. c.ends_to-behind.ensures.next (omega (arith, l, there, length-drop m s.status))
    (ap (λ (j : ℕ). (numbered B (slice_index s.status j)).b) (sym there)
    ∙ ap (λ (j : ℕ). (numbered B j).b) (sym (get_or-drop m s.status (behind - m) 0)) ∙ g) in
    let over = subst (λ (j : ℕ). c.label-over.result ≡ label_over 0 (take j s.status)) (sym there) c.label-over.ensures in
    let status = subst (λ (j : ℕ). c.replace_run.new.list ≡ take m s.status ++ (F ++ drop j s.status)) (sym there)
    c.in_ok-replace_run.ensures in
    let next : s.next + c.len.result ≡ s.next + length F = omega (arith, c.len.ensures) in
    passed B V c.args.index v s.status s.next s.links.items s.right.items c.set_rights.new.right.items m e F c.label-under.result
    c.label-over.result c.last_label-other.result
    c.replace_run.new.list c.push.new.self.items (s.next + c.len.result) s.list.now s.asked.items
    c.requires.realm c.requires.vertices c.requires.index c.point_at-v.ensures.on_grid c.point_at-v.ensures.column c.requires.swept
    c.requires.due c.requires.later c.count_below-below.ensures.below c.count_below-below.ensures.others c.ends_to-behind.ensures.ends stop
    c.in_ok-fan.ensures c.label-under.ensures over c.last_label-other.ensures c.set_rights.ensures.rights
    c.set_rights.ensures.kept c.set_rights.ensures.size status c.in_ok-push.ensures.items next
