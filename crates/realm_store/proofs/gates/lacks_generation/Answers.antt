use Rattle.realm_store.proofs.ReadyGates.{own_lacks, missing_lacks, waiting_lacks, last_lacks}
use Rattle.realm_store.proofs.gates.lacks_generation.Goals as goal

-- only the last says so
pub returns-in-Next : goal.returns-in-Next
returns-in-Next c = λ kept waits. own_lacks kept waits c.in-Next.is

pub returns-in-Missing : goal.returns-in-Missing
returns-in-Missing c = λ kept waits. missing_lacks kept waits c.in-Missing.is

pub returns-in-Waiting : goal.returns-in-Waiting
returns-in-Waiting c = λ kept waits. waiting_lacks kept waits c.in-Waiting.is

pub returns-in-Last : goal.returns-in-Last
returns-in-Last c = λ kept waits. last_lacks kept waits c.in-Last.is
