use Rattle.std.proofs.Common.{◌≤◌, arith}
use Rattle.rose_measure.specs.Numbers.{squared_distance}
use Rattle.rose_measure.specs.Extremes.{IsInBounds}
use Rattle.rose_measure.proofs.Ends.{all_further, all_of_all}
use Rattle.rose_measure.proofs.narrowing.reach_of.Goals as goal

-- the greater reach is as far as the reach was, and as both ends of the next element are
pub loop-item-preserved : goal.loop-item-preserved
loop-item-preserved g c =
    let part = c.args.part.now in
    let p = c.args.p.now in
    let old = c.loop-item.reach in
    let new = c.stretched-reach.result in
    let some = c.stretched-some.ensures in
    let both = c.stretched-reach.ensures in
    record {
      most = all_further g.T.Placed.place_at
          (λ q. IsInBounds part.bounds.low part.bounds.high q → squared_distance q p ≤ old)
          (λ q. IsInBounds part.bounds.low part.bounds.high q → squared_distance q p ≤ new) _ _ _ _ _
          c.loop-item-test.true c.item-item.is c.place-lesser.ensures c.place-greater.ensures
          (λ q h inside. omega (arith, h inside, some.keeps, both.keeps))
          (λ inside. omega (arith, some.has inside, both.keeps)) both.has
          c.loop-item.invariant.most;
      below = both.below;
    }

-- no element is left
pub returns-clause-most : goal.returns-clause-most
returns-clause-most g c =
    let part = c.args.part.now in
    all_of_all g.T.Placed.place_at
    (λ q. IsInBounds part.bounds.low part.bounds.high q → squared_distance q c.args.p.now ≤ c.loop-item.reach)
    _ _ c.loop-item-test.false c.loop-item.invariant.most
