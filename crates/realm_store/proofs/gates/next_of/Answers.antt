use Rattle.std.proofs.Common.{ap}
use Rattle.realm_files.specs.declared.place.Place.{Place}
use Rattle.realm_store.proofs.ReadyGates.{own_place, missing_place, waiting_place, last_next}
use Rattle.realm_store.proofs.gates.next_of.Goals as goal

-- it is known of each gate
pub returns-in-Next : goal.returns-in-Next
returns-in-Next c = λ kept waits. ap (λ (p : Place). p.next) (own_place kept waits c.in-Next.is)

pub returns-in-Missing : goal.returns-in-Missing
returns-in-Missing c = λ kept waits. ap (λ (p : Place). p.next) (missing_place kept waits c.in-Missing.is)

pub returns-in-Waiting : goal.returns-in-Waiting
returns-in-Waiting c = λ kept waits. ap (λ (p : Place). p.next) (waiting_place kept waits c.in-Waiting.is)

pub returns-in-Last : goal.returns-in-Last
returns-in-Last c = λ kept waits. last_next kept waits c.in-Last.is
