use Rattle.realm_store.proofs.ReadyGates.{own_place, missing_place, waiting_place, last_has_room}
use Rattle.realm_store.proofs.gates.place_of.Goals as goal

-- it is that of what is kept
pub returns-in-Next : goal.returns-in-Next
returns-in-Next c = λ kept waits. own_place kept waits c.in-Next.is

pub returns-in-Missing : goal.returns-in-Missing
returns-in-Missing c = λ kept waits. missing_place kept waits c.in-Missing.is

pub returns-in-Waiting : goal.returns-in-Waiting
returns-in-Waiting c = λ kept waits. waiting_place kept waits c.in-Waiting.is

-- there is room
pub unreachable-requires : goal.unreachable-requires
unreachable-requires c =
    let (kept, waits, room) = c.requires.room in
    last_has_room kept waits c.in-Last.is room
