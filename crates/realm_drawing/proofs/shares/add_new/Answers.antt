use Rattle.realm_drawing.proofs.ShareChanges.{added_one}
use Rattle.realm_drawing.proofs.shares.add_new.Goals as goal

-- the owner that was added is the share's
pub returns-clause-owners : goal.returns-clause-owners
returns-clause-owners c = added_one _ _ c.args.share.now _ c.in_ok-key.ensures.ok
