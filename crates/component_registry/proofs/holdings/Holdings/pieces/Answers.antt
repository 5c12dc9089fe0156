use Rattle.std.proofs.Common.{◌↔◌, Contains, AllPairs}
use Rattle.std.specs.HashMap as hash
use Rattle.std.specs.List.Sorted.{IsPermutation, IsSorted}
use Rattle.std.proofs.lemmas.Result.{IfOk-weaker}
use Rattle.grid_base.specs.Segment.{GridSegment, IsSegmentBefore, segment_cmp}
use Rattle.component_registry.specs.Registry.{IsPiece}
use Rattle.component_registry.proofs.OrderedKeys.{segments_listed, segments_rise}
use Rattle.component_registry.proofs.Seen.{get-seen}
use Rattle.component_registry.proofs.holdings.Holdings.pieces.Goals as goal

-- the list has the keys of the map, so its elements are the pieces
pub returns-clause-exact : goal.returns-clause-exact
returns-clause-exact c =
    let m = c.self.inside.pieces in
    IfOk-weaker c.keys_in_order.result
    (λ v. IsPermutation (hash.keys m) v.items × IsSorted segment_cmp v.items)
    (λ v. (s : GridSegment) → Contains v.items s ↔ IsPiece c.args.self.now s)
    (λ v is s. rw (← c.self.view_is, get-seen m s) (segments_listed m v.items is.0 s))
    c.keys_in_order.ensures.in_order

-- and it is sorted
pub returns-clause-ascending : goal.returns-clause-ascending
returns-clause-ascending c =
    let m = c.self.inside.pieces in
    IfOk-weaker c.keys_in_order.result
    (λ v. IsPermutation (hash.keys m) v.items × IsSorted segment_cmp v.items)
    (λ v. AllPairs IsSegmentBefore v.items)
    (λ v is. segments_rise m v.items is.0 c.keys_in_order.ensures.unique is.1)
    c.keys_in_order.ensures.in_order
