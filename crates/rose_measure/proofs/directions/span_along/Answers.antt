use Rattle.std.proofs.Common.{◌≤◌, subst, arith}
use Rattle.std.proofs.lemmas.List.{take_all}
use Rattle.std.proofs.lemmas.List.Elements.{All-more, All-weaker}
use Rattle.rose_measure.specs.Extremes.{IsInBounds}
use Rattle.rose_measure.specs.Directions.{along}
use Rattle.rose_measure.proofs.Ways.{IsSpan}
use Rattle.rose_measure.proofs.directions.span_along.Goals as goal

-- the longer span has what the span had, and the next point
pub loop-p-preserved : goal.loop-p-preserved
loop-p-preserved c =
    let way = c.args.way.now in
    let part = c.args.part.now in
    let old = c.loop-p.span in
    let new = c.stretched-span.result in
    let keeps = c.stretched-span.ensures.keeps in
    let before : IsSpan way.steps way.left way.down _ part.bounds.low part.bounds.high new.first new.last =
    All-weaker
    (λ p. IsInBounds part.bounds.low part.bounds.high p
    → (old.first ≤ along way.steps way.left way.down p) × (along way.steps way.left way.down p ≤ old.last))
    (λ p. IsInBounds part.bounds.low part.bounds.high p
    → (new.first ≤ along way.steps way.left way.down p) × (along way.steps way.left way.down p ≤ new.last))
    (λ p h inside. (omega (arith, (h inside).0, keeps.0), omega (arith, (h inside).1, keeps.1))) _ c.loop-p.invariant.has in
    record {
      has = All-more
          (λ p. IsInBounds part.bounds.low part.bounds.high p
          → (new.first ≤ along way.steps way.left way.down p) × (along way.steps way.left way.down p ≤ new.last)) _ _ c.p-item.result
          c.loop-p-test.true before
          (subst (λ p. IsInBounds part.bounds.low part.bounds.high p
          → (new.first ≤ along way.steps way.left way.down p) × (along way.steps way.left way.down p ≤ new.last)) c.p-item.is
          c.stretched-span.ensures.has);
      first_below = c.stretched-span.ensures.below.0;
      last_below = c.stretched-span.ensures.below.1;
    }

-- no point is left
pub returns-clause-has : goal.returns-clause-has
returns-clause-has c =
    let way = c.args.way.now in
    let part = c.args.part.now in
    let span = c.loop-p.span in
    subst (λ xs. IsSpan way.steps way.left way.down xs part.bounds.low part.bounds.high span.first span.last)
    (take_all _ _ c.loop-p-test.false) c.loop-p.invariant.has
