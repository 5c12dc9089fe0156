use Rattle.realm_drawing.proofs.ShareChanges.{added_one}
use Rattle.realm_drawing.proofs.shares.add_share.Goals as goal

-- the owner that was added is the share's
pub returns-in_ok-add-clause-owners : goal.returns-in_ok-add-clause-owners
returns-in_ok-add-clause-owners c = added_one _ _ c.args.share.now _ c.in_ok-add.ensures.ok
