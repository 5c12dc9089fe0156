use Rattle.realm_insert.proofs.SameStates.{not_refused, fits, one_state, one_failure}
use Rattle.realm_insert.proofs.laws.replay_agrees.Goals as goal

-- the lemmas are the law itself
pub returns-clause-not_refused : goal.returns-clause-not_refused
returns-clause-not_refused c = not_refused

pub returns-clause-fits : goal.returns-clause-fits
returns-clause-fits c = fits

pub returns-clause-one_state : goal.returns-clause-one_state
returns-clause-one_state c = one_state

pub returns-clause-one_number : goal.returns-clause-one_number
returns-clause-one_number c = one_failure
