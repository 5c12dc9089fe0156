use Rattle.std.proofs.Common.{◌∙◌, List, sym, true≢false, arith, rules}
use Rattle.std.specs.Ordering.{is_lt}
use Rattle.std.specs.Cmp.Lexicographic.{slice_cmp, lists_total}
use Rattle.std.proofs.lemmas.List.Sorted.{ranks_by, answers_always, sorted_far}
use Rattle.grid_base.specs.Point.{GridPoint}
use Rattle.grid_base.specs.Point.{point_cmp}
use Rattle.grid_base.proofs.Orders.{point_cmp-total}
use Rattle.r_faces.proofs.ListOrders.{list_before_is}
use Rattle.r_faces.proofs.ordering.in_order.Goals as goal

-- the sort is by the order of lists
pub returns-clause-ascending : goal.returns-clause-ascending
returns-clause-ascending c =
    let lt = λ (a b : List GridPoint). is_lt (slice_cmp point_cmp a b) in
    let order = ranks_by (lists_total point_cmp-total) (λ (a : List GridPoint). a) in
    let sorted = c.in_ok-sort_by.ensures.sorted lt order (answers_always _ _ _ (λ f a r g called. search rules)) in
    λ i j d before within less.
    true≢false (sym (list_before_is _ _ less) ∙ sorted_far lt order c.sort_by.new.self.items sorted i j d (omega arith) within)
