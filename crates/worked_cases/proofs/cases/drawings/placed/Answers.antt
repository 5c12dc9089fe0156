use Rattle.std.proofs.Common.{◌<◌, arith}
use Rattle.std.proofs.lemmas.List.Elements.{All-push, All-weaker}
use Rattle.hook_chain.specs.Straight.{straight}
use Rattle.worked_cases.proofs.cases.drawings.placed.Goals as goal

-- the next id is greater than the one that was given, and so than all before it
pub loop-ends-preserved : goal.loop-ends-preserved
loop-ends-preserved c =
    let old = c.loop-ends.drawing.drawing.originals in
    let next = c.in_ok-id.id in
    let above : c.loop-ends.id < next =
    grind (arith, c.checked_add.ensures, c.ok_or-in-loop-ends.ensures.value, c.in_ok-id.was) in
    rw c.in_ok-place.ensures.ok
    (All-push (λ o. o.id < next) old (straight c.loop-ends.id c.in_ok-ok_or.field-0)
    (All-weaker (λ o. o.id < c.loop-ends.id) (λ o. o.id < next) (λ o below. omega (arith, above)) old c.loop-ends.invariant)
    above)
