use Rattle.std.proofs.Common.{◌∷◌, [], take_all}
use Rattle.realm_drawing.proofs.KeptKeys.{kept_with_fewer}
use Rattle.realm_drawing.proofs.ShareChanges.{HasFewer-next}
use Rattle.realm_drawing.proofs.shares.drop_shares.Goals as goal

-- one share less, and what is left kept its keys
pub loop-share-preserved : goal.loop-share-preserved
loop-share-preserved c =
    let y = c.share-item.result in
    let kept = c.loop-share.invariant in
    let dropped = c.drop_share.ensures in
    record {
      owners = HasFewer-next _ _ _ _ _ y c.loop-share-test.true c.share-item.is kept.owners dropped.owners;
      keys = kept_with_fewer _ _ _ (y ∷ []) dropped.sound dropped.owners kept.keys dropped.keys;
      sound = dropped.sound;
    }

-- at the end all were taken out
pub returns-clause-owners : goal.returns-clause-owners
returns-clause-owners c =
    let past = c.loop-share-test.false in
    rw take_all at c.loop-share.invariant.owners
