use Rattle.realm_store.proofs.OneReading.{stands_once, one_reading, damaged_once}
use Rattle.realm_store.proofs.laws.one_reading.Goals as goal

-- the lemmas are the law itself
pub returns-clause-one_state : goal.returns-clause-one_state
returns-clause-one_state c = stands_once

pub returns-clause-none_damaged : goal.returns-clause-none_damaged
returns-clause-none_damaged c = one_reading

pub returns-clause-one_damage : goal.returns-clause-one_damage
returns-clause-one_damage c = damaged_once
