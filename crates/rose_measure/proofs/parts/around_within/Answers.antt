use Rattle.rose_measure.specs.Extremes.{IsInBounds}
use Rattle.rose_measure.proofs.Ends.{all_further, all_of_all}
use Rattle.rose_measure.proofs.parts.around_within.Goals as goal

-- the grown box has what the box had, and both ends of the next element
pub loop-item-preserved : goal.loop-item-preserved
loop-item-preserved g c =
    let window = c.args.window.now in
    let old = c.loop-item.bounds in
    let new = c.grown-bounds.result in
    let some = c.grown-some.ensures in
    let both = c.grown-bounds.ensures in
    all_further g.T.Placed.place_at
    (λ p. IsInBounds window.low window.high p → IsInBounds old.low old.high p)
    (λ p. IsInBounds window.low window.high p → IsInBounds new.low new.high p) _ _ _ _ _
    c.loop-item-test.true c.item-item.is c.place-lesser.ensures c.place-greater.ensures
    (λ p h inside. both.keeps p (some.keeps p (h inside))) (λ inside. both.keeps _ (some.has inside)) both.has
    c.loop-item.invariant

-- no element is left
pub returns : goal.returns
returns g c =
    let window = c.args.window.now in
    let bounds = c.loop-item.bounds in
    all_of_all g.T.Placed.place_at (λ p. IsInBounds window.low window.high p → IsInBounds bounds.low bounds.high p) _ _
    c.loop-item-test.false c.loop-item.invariant
