use Rattle.std.proofs.Common.{◌-◌, refl, arith}
use Rattle.std.proofs.Math.Nat.{div-mul-le_self}
use Rattle.hook_chain.proofs.Farey.{taken_some}
use Rattle.hook_chain.proofs.Descents.{high_moved, high_descends, low_ascends, high_within, low_within, high_climbs, descent_ends}
use Rattle.hook_chain.proofs.closeness.climbing.all_climb.Goals as goal

-- the new upper way is within the piece
pub moved-high-requires-clause-p_below : goal.moved-high-requires-clause-p_below
moved-high-requires-clause-p_below c =
    let within = high_within _ _ _ _ _ _ _ _ _ c.loop-under.invariant.split refl in omega (arith, within.0)

pub moved-high-requires-clause-q_below : goal.moved-high-requires-clause-q_below
moved-high-requires-clause-q_below c =
    let within = high_within _ _ _ _ _ _ _ _ _ c.loop-under.invariant.split refl in omega (arith, within.1)

pub climbs-requires-clause-way_below : goal.climbs-requires-clause-way_below
climbs-requires-clause-way_below c =
    let within = high_within _ _ _ _ _ _ _ _ _ c.loop-under.invariant.split refl in omega (arith, within.0, within.1)

-- and so is the new lower way
pub moved-low-requires-clause-p_below : goal.moved-low-requires-clause-p_below
moved-low-requires-clause-p_below c =
    let within = low_within _ _ _ _ _ _ _ _ _ c.loop-under.invariant.split refl in omega (arith, within.0)

pub moved-low-requires-clause-q_below : goal.moved-low-requires-clause-q_below
moved-low-requires-clause-q_below c =
    let within = low_within _ _ _ _ _ _ _ _ _ c.loop-under.invariant.split refl in omega (arith, within.1)

-- a way within the piece that doesn't climb is the new upper one
pub returns-then-not-climbs-clause-only : goal.returns-then-not-climbs-clause-only
returns-then-not-climbs-clause-only c all =
    let split = high_moved _ _ _ _ _ _ _ _ _ c.loop-under.invariant.split refl in
    let high = high_climbs _ _ _ _ _ _ _ _ _ _ _ split all in
    let here = rw (← c.moved-high.ensures.p, ← c.moved-high.ensures.q) at high in
    c.if-not-climbs.ensures.1 here

-- all ways from the new upper one on climb
pub loop-under-preserved-else-not-climbs : goal.loop-under-preserved-else-not-climbs
loop-under-preserved-else-not-climbs c =
    let climbs = c.if-not-climbs.ensures.0 refl in
    let here = rw (c.moved-high.ensures.p, c.moved-high.ensures.q) at climbs in
    rw (c.moved-high.ensures.p, c.moved-high.ensures.q)
    (high_descends _ _ _ _ _ _ _ _ _ _ _ _ c.loop-under.invariant refl c.if-under-over.true here)

-- the lower way goes up, and the upper one stays
pub loop-under-preserved : goal.loop-under-preserved
loop-under-preserved c =
    rw (c.moved-low.ensures.p, c.moved-low.ensures.q) (low_ascends _ _ _ _ _ _ _ _ _ _ _ _ c.loop-under.invariant refl)

-- both parts are of one size
pub returns-clause-steeper : goal.returns-clause-steeper
returns-clause-steeper c _ b a steep =
    descent_ends _ _ _ _ _ _ _ _ _ _ _ c.loop-under.invariant (omega arith) c.requires.forth b a steep

-- the steps that are taken away fit
pub overflow_mul-over : goal.overflow_mul-over
overflow_mul-over c =
    let fits = div-mul-le_self (c.loop-under.over - 1) c.loop-under.under in
    omega (arith, fits, c.loop-under.auto.over-fits)

pub overflow_sub-over : goal.overflow_sub-over
overflow_sub-over c =
    let fits = div-mul-le_self (c.loop-under.over - 1) c.loop-under.under in omega (arith, fits)

pub overflow_mul-under : goal.overflow_mul-under
overflow_mul-under c =
    let fits = div-mul-le_self (c.loop-under.under - 1) c.loop-under.over in
    omega (arith, fits, c.loop-under.auto.under-fits)

pub overflow_sub-under : goal.overflow_sub-under
overflow_sub-under c =
    let fits = div-mul-le_self (c.loop-under.under - 1) c.loop-under.over in omega (arith, fits)

-- and they are some
pub loop-under-smaller : goal.loop-under-smaller
loop-under-smaller c =
    let more = taken_some (c.loop-under.under - 1) c.loop-under.over c.loop-under.invariant.split.over_some
    (omega (arith, c.if-under-over.false, c.loop-under-test.true)) in
    omega (arith, more, c.loop-under.invariant.split.under_some)

pub loop-under-smaller-else-not-climbs : goal.loop-under-smaller-else-not-climbs
loop-under-smaller-else-not-climbs c =
    let more = taken_some (c.loop-under.over - 1) c.loop-under.under c.loop-under.invariant.split.under_some
    (omega (arith, c.if-under-over.true)) in
    omega (arith, more, c.loop-under.invariant.split.over_some)
