use Rattle.std.proofs.Common.{◌↔◌, ◌<◌, Contains, AllPairs}
use Rattle.std.specs.HashMap as hash
use Rattle.std.specs.List.Sorted.{IsPermutation, IsSorted}
use Rattle.std.proofs.lemmas.Result.{IfOk-weaker}
use Rattle.grid_base.specs.Point.{GridPoint, IsBefore, point_cmp}
use Rattle.component_registry.specs.Registry.{uses_of}
use Rattle.component_registry.proofs.EndCounts.{used_where_found}
use Rattle.component_registry.proofs.OrderedKeys.{points_listed, points_rise}
use Rattle.component_registry.proofs.registry.Registry.vertices.Goals as goal

-- the list has the points that are counted, and no count is 0
pub returns-clause-exact : goal.returns-clause-exact
returns-clause-exact c =
    let ends = c.self.inside.ends in
    IfOk-weaker c.keys_in_order.result
    (λ v. IsPermutation (hash.keys ends) v.items × IsSorted point_cmp v.items)
    (λ v. (p : GridPoint) → Contains v.items p ↔ (0 < uses_of c.args.self.now p))
    (λ v is p.
    let there = points_listed ends v.items is.0 p in
    let used = used_where_found ends c.self.invariant.no_zero p in
    rw (← c.self.view_is, ← c.self.invariant.counted p) (λ h. used.0 (there.0 h), λ h. there.1 (used.1 h)))
    c.keys_in_order.ensures.in_order

-- and it is sorted
pub returns-clause-ascending : goal.returns-clause-ascending
returns-clause-ascending c =
    let ends = c.self.inside.ends in
    IfOk-weaker c.keys_in_order.result
    (λ v. IsPermutation (hash.keys ends) v.items × IsSorted point_cmp v.items)
    (λ v. AllPairs IsBefore v.items)
    (λ v is. points_rise ends v.items is.0 c.keys_in_order.ensures.unique is.1)
    c.keys_in_order.ensures.in_order
