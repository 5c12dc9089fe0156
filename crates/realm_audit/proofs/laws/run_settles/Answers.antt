use Rattle.realm_audit.proofs.ClosedChanges.{steps_come_last, steps_settle}
use Rattle.realm_audit.proofs.laws.run_settles.Goals as goal

-- the lemmas are the law itself
pub returns-clause-come_last : goal.returns-clause-come_last
returns-clause-come_last c = steps_come_last

pub returns-clause-settle : goal.returns-clause-settle
returns-clause-settle c = steps_settle
