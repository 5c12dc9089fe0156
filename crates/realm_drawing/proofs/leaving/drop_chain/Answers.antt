use Rattle.std.proofs.Common.{◌≡◌}
use Rattle.realm_drawing.specs.declared.shares.Share.{Share}
use Rattle.hook_chain.specs.Chains.{IsBetween}
use Rattle.realm_drawing.proofs.LostShares.{KeepsKeys-itself, loses_no_link, loses_next_link, loses_chain, kept_with_loss}
use Rattle.realm_drawing.proofs.leaving.drop_chain.Goals as goal

-- before the first link nothing is lost
pub loop-i-init : goal.loop-i-init
loop-i-init c = record {
  owners = loses_no_link c.args.id c.args.registry.now c.args.points.now;
  keys = KeepsKeys-itself c.args.registry.now;
  sound = c.requires.sound;
}

-- the share of one link more, and what is left kept its keys
pub loop-i-preserved : goal.loop-i-preserved
loop-i-preserved c =
    let v = c.index-points-i in
    let w = c.index-points-i-in-loop-i in
    let Lost = λ (y : Share). (y.id ≡ c.args.id) × IsBetween y.piece v.result w.result in
    let kept = c.loop-i.invariant in
    let dropped = c.drop_between.ensures in
    record {
      owners = loses_next_link c.args.id _ _ _ c.args.points.now c.loop-i.i v.result w.result
          c.loop-i.auto.i c.loop-i-test.true v.is w.is kept.owners dropped.owners;
      keys = kept_with_loss _ _ _ Lost dropped.sound dropped.owners kept.keys dropped.keys;
      sound = dropped.sound;
    }

-- at the end the shares of all links are lost
pub returns-clause-owners : goal.returns-clause-owners
returns-clause-owners c =
    loses_chain c.args.id c.args.points.now c.loop-i.i _ _ c.loop-i-test.false c.loop-i.invariant.owners
