use Rattle.realm_store.proofs.OldImages.{stand_still}
use Rattle.realm_store.proofs.laws.stands_as_before.Goals as goal

-- a record of one change leads on as it did
pub returns : goal.returns
returns c = stand_still
