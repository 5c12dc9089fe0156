use Rattle.std.proofs.Common.{arith, ap}
use Rattle.realm_files.specs.declared.place.Place.{Place}
use Rattle.realm_store.proofs.ReadyGates.{own_next, own_cut, own_readied, missing_place, missing_within, missing_readied}
use Rattle.realm_store.proofs.ReadyGates.{waiting_readied, last_has_room}
use Rattle.realm_store.proofs.writing.ready_gate.Goals as goal

-- the generation isn't whole yet,
pub returns-in_err-put_next-in-Next-clause-told : goal.returns-in_err-put_next-in-Next-clause-told
returns-in_err-put_next-in-Next-clause-told g c = λ t kept waits rest.
    own_cut kept waits c.from_residual.result c.from_residual.ensures.0 c.in-Next.is
    (c.in_err-put_next-in-Next.ensures.told t kept (own_next kept waits c.in-Next.is) kept.state rest)

-- or the gate stands behind it
pub returns-in_ok-put_next-in-Next-clause-told : goal.returns-in_ok-put_next-in-Next-clause-told
returns-in_ok-put_next-in-Next-clause-told g c = λ t kept waits rest.
    own_readied kept waits c.in-Next.is (c.in_ok-put_next-in-Next.ensures.told t kept (own_next kept waits c.in-Next.is) kept.state rest)

-- the gate that is missing is within its file or at the end, and not too far
pub shut_gate-requires-clause-room : goal.shut_gate-requires-clause-room
shut_gate-requires-clause-room g c =
    let (kept, waits, room, rest) = c.requires.rest in
    omega (arith, ap (λ (p : Place). p.next) (missing_place kept waits c.in-Missing.is), room.gate)

pub shut_gate-requires-clause-within : goal.shut_gate-requires-clause-within
shut_gate-requires-clause-within g c = λ t.
    let (kept, waits, room, rest) = c.requires.rest in
    missing_within kept waits c.in-Missing.is (rest t).rests

-- it was added
pub returns-in-Missing-clause-told : goal.returns-in-Missing-clause-told
returns-in-Missing-clause-told g c = λ t kept waits rest.
    missing_readied kept waits c.shut_gate.result c.in-Missing.is (λ f. g.met.W.Outside.reads_an_image c.shut_gate.new.world f t) rest
    (c.shut_gate.ensures.told t)

-- nothing was to be done
pub returns-in-Waiting-clause-told : goal.returns-in-Waiting-clause-told
returns-in-Waiting-clause-told g c = λ t kept waits rest. waiting_readied kept waits c.in-Waiting.is rest

-- there is room
pub unreachable-requires : goal.unreachable-requires
unreachable-requires g c =
    let (kept, waits, room, rest) = c.requires.rest in
    last_has_room kept waits c.in-Last.is room
