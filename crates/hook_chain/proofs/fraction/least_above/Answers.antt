use Rattle.std.proofs.Common.{◌-◌, arith}
use Rattle.hook_chain.proofs.Farey.{product_of_quotient, steps_some, high_step, low_step, found, found_exact}
use Rattle.hook_chain.proofs.fraction.least_above.Goals as goal

-- the new upper fraction has a small denominator
pub moved-high-requires-clause-p_below : goal.moved-high-requires-clause-p_below
moved-high-requires-clause-p_below c =
    let next = high_step _ _ _ _ _ _ _ _ _ _ c.loop-over.invariant c.min-k.ensures in
    omega (arith, next.high_within, next.high_proper)

pub moved-high-requires-clause-q_below : goal.moved-high-requires-clause-q_below
moved-high-requires-clause-q_below c =
    let next = high_step _ _ _ _ _ _ _ _ _ _ c.loop-over.invariant c.min-k.ensures in omega (arith, next.high_within)

-- and so has the new lower one
pub moved-low-requires-clause-p_below : goal.moved-low-requires-clause-p_below
moved-low-requires-clause-p_below c =
    let next = low_step _ _ _ _ _ _ _ _ _ _ c.loop-over.invariant c.min-k-else-under-over.ensures in
    omega (arith, next.low_within, next.low_proper)

pub moved-low-requires-clause-q_below : goal.moved-low-requires-clause-q_below
moved-low-requires-clause-q_below c =
    let next = low_step _ _ _ _ _ _ _ _ _ _ c.loop-over.invariant c.min-k-else-under-over.ensures in
    omega (arith, next.low_within)

-- the upper one goes down by as many lower ones as fit
pub loop-over-preserved-then-under-over : goal.loop-over-preserved-then-under-over
loop-over-preserved-then-under-over c =
    rw (c.moved-high.ensures.p, c.moved-high.ensures.q) (high_step _ _ _ _ _ _ _ _ _ _ c.loop-over.invariant c.min-k.ensures)

-- and the lower one up by as many upper ones
pub loop-over-preserved : goal.loop-over-preserved
loop-over-preserved c =
    rw (c.moved-low.ensures.p, c.moved-low.ensures.q)
    (low_step _ _ _ _ _ _ _ _ _ _ c.loop-over.invariant c.min-k-else-under-over.ensures)

-- nothing between the two has a denominator of at most n
pub returns-else-low-high : goal.returns-else-low-high
returns-else-low-high c = found _ _ _ _ _ _ _ _ _ c.loop-over.invariant c.if-low-high.false

-- or the upper one is c / d itself
pub returns-after-loop-over : goal.returns-after-loop-over
returns-after-loop-over c = found_exact _ _ _ _ _ _ _ _ _ (omega arith) c.loop-over.invariant (omega arith)

-- the steps that are taken away fit
pub overflow_mul-over : goal.overflow_mul-over
overflow_mul-over c =
    let fits = product_of_quotient c.min-k.result c.loop-over.over c.loop-over.under (omega (arith, c.min-k.ensures)) in
    omega (arith, fits, c.loop-over.auto.over-fits)

pub overflow_mul-under : goal.overflow_mul-under
overflow_mul-under c =
    let fits = product_of_quotient c.min-k-else-under-over.result (c.loop-over.under - 1) c.loop-over.over
    (omega (arith, c.min-k-else-under-over.ensures)) in
    omega (arith, fits, c.loop-over.auto.under-fits)

-- at least one step fits, so the lower denominator grows
pub loop-over-smaller : goal.loop-over-smaller
loop-over-smaller c =
    let more = steps_some _ _ _ _ _ c.loop-over-test.true (omega (arith, c.if-under-over.false)) c.loop-over.invariant.high_some
    (omega (arith, c.if-low-high.true)) c.min-k-else-under-over.ensures in
    omega (arith, more, c.moved-low.ensures.q, c.if-low-high.true)
