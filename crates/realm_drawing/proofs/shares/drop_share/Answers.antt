use Rattle.realm_drawing.proofs.ShareChanges.{dropped_if_there}
use Rattle.realm_drawing.proofs.shares.drop_share.Goals as goal

-- the registry says whether the share was there
pub returns-clause-owners : goal.returns-clause-owners
returns-clause-owners c =
    let facts = c.remove.ensures in
    dropped_if_there _ _ _ c.args.share.now facts.found facts.removed facts.unchanged
