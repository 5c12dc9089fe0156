use Rattle.grid_base.specs.Crossing.{Cross}
use Rattle.hook_chain.specs.Mending.{MendsCrossing}
use Rattle.realm_drawing.proofs.LinkSearches.{no_link_first, no_link_more, no_link_left, link_found}
use Rattle.realm_drawing.proofs.violations.crossing_along.Goals as goal

-- before the first link there is none
pub loop-i-init : goal.loop-i-init
loop-i-init c = no_link_first (Cross c.args.t.now) c.args.chain.now

-- a link that doesn't cross t
pub loop-i-preserved : goal.loop-i-preserved
loop-i-preserved c =
    let v = c.index-chain-i in
    let w = c.index-chain-i-in-loop-i in
    no_link_more (Cross c.args.t.now) c.args.chain.now c.loop-i.i v.result w.result c.loop-i.auto.i c.loop-i-test.true
    v.is w.is c.loop-i.invariant c.in_default.ensures

-- a link that crosses t
pub returns-in-Some : goal.returns-in-Some
returns-in-Some c =
    let v = c.index-chain-i in
    let w = c.index-chain-i-in-loop-i in
    link_found (λ u. MendsCrossing c.args.t.now u c.in-Some.step) c.args.chain.now c.loop-i.i v.result w.result
    c.loop-i.auto.i c.loop-i-test.true v.is w.is c.in-Some.ensures

-- at the end no link crosses t
pub returns : goal.returns
returns c = no_link_left (Cross c.args.t.now) c.args.chain.now c.loop-i.i c.loop-i-test.false c.loop-i.invariant
