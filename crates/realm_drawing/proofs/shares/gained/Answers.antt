use Rattle.std.proofs.Common.{Contains}
use Rattle.realm_drawing.specs.Shares.{Held}
use Rattle.realm_drawing.proofs.LinkShares.{lists_next_link, lists_gained}
use Rattle.realm_drawing.proofs.shares.gained.Goals as goal

-- what the owners gain of one link more
pub loop-i-preserved : goal.loop-i-preserved
loop-i-preserved c =
    let r = c.args.registry.now in
    let v = c.index-path-i in
    let w = c.index-path-i-in-loop-i in
    lists_next_link (λ y. Contains c.args.owners.now y.id × ¬ Held r y) _ _ _ c.args.path.now c.loop-i.i v.result w.result
    c.loop-i.auto.i c.loop-i-test.true v.is w.is c.loop-i.invariant c.in_ok-gained_between.ensures.ok

-- at the end of all links
pub returns : goal.returns
returns c = record {
  ok = lists_gained _ c.args.owners.now c.args.path.now c.loop-i.i _ _ c.loop-i-test.false c.loop-i.invariant;
}
