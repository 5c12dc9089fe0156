use Rattle.std.proofs.Common.{subst}
use Rattle.std.proofs.lemmas.List.{take_all}
use Rattle.rose_measure.specs.Extremes.{at_ends, boxed, AtLeast, IsBest}
use Rattle.rose_measure.proofs.Pairs.{greatest_of_none, greatest_further}
use Rattle.rose_measure.proofs.widths.farthest_of_few.Goals as goal

-- there is nothing yet
pub loop-item-init : goal.loop-item-init
loop-item-init g c = greatest_of_none _ _ _ _

-- the greatest so far, then from the lesser end, and then from the greater
pub loop-item-preserved : goal.loop-item-preserved
loop-item-preserved g c =
    greatest_further g.T.Placed.place_at _ _ _ _ _ _ _ _ _ _ _ _ c.loop-item-test.true c.item-item.is c.place-lesser.ensures
    c.place-greater.ensures c.loop-item.invariant c.farthest_if_seen-farther.ensures c.farthest_if_seen-found.ensures

-- no element is left
pub returns : goal.returns
returns g c =
    let first = c.args.first.now in
    let second = c.args.second.now in
    subst (λ xs. IsBest AtLeast (boxed (at_ends g.T.Placed.place_at xs) first.bounds.low first.bounds.high)
    (boxed (at_ends g.T.Placed.place_at second.list.now) second.bounds.low second.bounds.high) c.args.found c.loop-item.found)
    (take_all _ _ c.loop-item-test.false) c.loop-item.invariant
