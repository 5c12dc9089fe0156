use Rattle.rose_measure.specs.Extremes.{IsInBounds}
use Rattle.rose_measure.proofs.Ends.{all_further, all_of_all}
use Rattle.rose_measure.proofs.parts.around.Goals as goal

-- the larger box has what the box had, and both ends of the next element
pub loop-item-preserved : goal.loop-item-preserved
loop-item-preserved g c =
    let old = c.loop-item.bounds in
    let new = c.with-bounds.result in
    all_further g.T.Placed.place_at (IsInBounds old.low old.high) (IsInBounds new.low new.high) _ _ _ _ _
    c.loop-item-test.true c.item-item.is c.place-lesser.ensures c.place-greater.ensures
    (λ p inside. c.with-bounds.ensures.keeps p (c.with.ensures.keeps p inside))
    (c.with-bounds.ensures.keeps _ c.with.ensures.has) c.with-bounds.ensures.has c.loop-item.invariant

-- no element is left
pub returns : goal.returns
returns g c =
    all_of_all g.T.Placed.place_at (IsInBounds c.loop-item.bounds.low c.loop-item.bounds.high) _ _ c.loop-item-test.false
    c.loop-item.invariant
