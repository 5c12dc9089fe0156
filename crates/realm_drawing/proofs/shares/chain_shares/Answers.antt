use Rattle.std.proofs.Common.{◌≡◌}
use Rattle.realm_drawing.proofs.LinkShares.{lists_next_link, lists_of_chain}
use Rattle.realm_drawing.proofs.shares.chain_shares.Goals as goal

-- the share of one link more
pub loop-i-preserved : goal.loop-i-preserved
loop-i-preserved c =
    let v = c.index-points-i in
    let w = c.index-points-i-in-loop-i in
    lists_next_link (λ y. y.id ≡ c.args.id) _ _ _ c.args.points.now c.loop-i.i v.result w.result
    c.loop-i.auto.i c.loop-i-test.true v.is w.is c.loop-i.invariant c.in_ok-share_between.ensures.ok

-- at the end those of all links
pub returns : goal.returns
returns c = record { ok = lists_of_chain c.args.id c.args.points.now c.loop-i.i _ _ c.loop-i-test.false c.loop-i.invariant }
