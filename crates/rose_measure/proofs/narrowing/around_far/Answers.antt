use Rattle.std.proofs.Common.{◌⊎◌, inl, inr, ⊎_elim}
use Rattle.rose_measure.specs.Extremes.{IsInBounds}
use Rattle.rose_measure.specs.Sights.{IsNear}
use Rattle.rose_measure.proofs.Ends.{all_further, all_of_all}
use Rattle.rose_measure.proofs.narrowing.around_far.Goals as goal

-- the grown box has what the box had, and both ends of the next element, unless nothing in sight lies farther from them
pub loop-item-preserved : goal.loop-item-preserved
loop-item-preserved g c =
    let part = c.args.part.now in
    let sight = c.args.sight.now in
    let found = c.args.found in
    let old = c.loop-item.bounds in
    let new = c.grown_to_far-bounds.result in
    let some = c.grown_to_far-some.ensures in
    let both = c.grown_to_far-bounds.ensures in
    all_further g.T.Placed.place_at
    (λ p. IsInBounds part.bounds.low part.bounds.high p → IsInBounds old.low old.high p ⊎ IsNear sight found p)
    (λ p. IsInBounds part.bounds.low part.bounds.high p → IsInBounds new.low new.high p ⊎ IsNear sight found p) _ _ _ _ _
    c.loop-item-test.true c.item-item.is c.place-lesser.ensures c.place-greater.ensures
    (λ p h inside. ⊎_elim (λ before. inl (both.keeps p (some.keeps p before))) inr (h inside))
    (λ inside. ⊎_elim (λ there. inl (both.keeps _ there)) inr (some.has inside)) both.has
    c.loop-item.invariant

-- no element is left
pub returns : goal.returns
returns g c =
    let part = c.args.part.now in
    let bounds = c.loop-item.bounds in
    all_of_all g.T.Placed.place_at
    (λ p. IsInBounds part.bounds.low part.bounds.high p → IsInBounds bounds.low bounds.high p ⊎ IsNear c.args.sight.now c.args.found p)
    _ _ c.loop-item-test.false c.loop-item.invariant
