use Rattle.std.proofs.Common.{sym, subst, ap, arith}
use Rattle.realm_journal.specs.Appending.{IsShut}
use Rattle.realm_files.specs.declared.place.Place.{Place}
use Rattle.realm_files.proofs.Rests.{shut_at_rest}
use Rattle.realm_store.specs.Keeping.{with_state}
use Rattle.realm_store.specs.Stands.{meaning}
use Rattle.realm_store.proofs.Commits.{kept_then, kept_early, kept_cut, kept_whole}
use Rattle.realm_store.proofs.store.Store.write_ready.Goals as goal

-- the gate was made ready for what was kept before
pub ready_gate-requires-clause-rest : goal.ready_gate-requires-clause-rest
ready_gate-requires-clause-rest g c =
    let (before, waits, room, rest) = c.requires.gate in
    (with_state before c.args.self.now.kept, waits, room, rest)

-- the record isn't begun yet
pub returns-in_err-ready_gate-clause-told : goal.returns-in_err-ready_gate-clause-told
returns-in_err-ready_gate-clause-told g c = λ t before waits rest leads.
    kept_early c.from_residual.result c.from_residual.ensures.0
    (c.in_err-ready_gate.ensures.told t (with_state before c.args.self.now.kept) waits rest)

-- its gate is there, closed in each image
pub place_of-place-requires : goal.place_of-place-requires
place_of-place-requires g c =
    let (before, waits, room, rest) = c.requires.gate in
    record { room = (with_state before c.args.self.now.kept, waits, room) }

pub append-requires-clause-gate : goal.append-requires-clause-gate
append-requires-clause-gate g c = λ t.
    let (before, waits, room, rest) = c.requires.gate in
    let start = with_state before c.args.self.now.kept in
    let one = c.in_ok-ready_gate.ensures in
    let there = c.place_of-place.ensures start waits in
    let ready = one.told t start waits (rest (one.goes_on.tells t)) in
    subst (λ (p : Place). IsShut (g.W.Outside.view c.ready_gate.new.world) p.file p.next) (sym there) (shut_at_rest meaning ready.rest)

pub append-requires-clause-room : goal.append-requires-clause-room
append-requires-clause-room g c =
    let (before, waits, room, rest) = c.requires.gate in
    let there = c.place_of-place.ensures (with_state before c.args.self.now.kept) waits in
    omega (arith, ap (λ (p : Place). p.next) there, room.gate)

-- it isn't whole, or stands behind its gate
pub returns-in_err-next-clause-told : goal.returns-in_err-next-clause-told
returns-in_err-next-clause-told g c = λ t before waits rest leads.
    let start = with_state before c.args.self.now.kept in
    let two = c.in_err-next.ensures in
    let there = c.place_of-place.ensures start waits in
    let ready = c.in_ok-ready_gate.ensures.told (two.goes_on.tells t) start waits rest in
    kept_cut there c.requires.is_record leads ready (λ f. g.met.W.Outside.reads_an_image c.append.new.world f t) _
    c.from_residual-in_err-next.result c.from_residual-in_err-next.ensures.0 (two.told t)

pub returns-clause-told : goal.returns-clause-told
returns-clause-told g c = λ t before waits rest leads.
    let start = with_state before c.args.self.now.kept in
    let two = c.in_ok-next.ensures in
    let there = c.place_of-place.ensures start waits in
    let ready = c.in_ok-ready_gate.ensures.told (two.goes_on.tells t) start waits rest in
    kept_whole there c.requires.is_record leads ready (λ f. g.met.W.Outside.reads_an_image c.append.new.world f t) (two.told t)

pub returns-clause-kept : goal.returns-clause-kept
returns-clause-kept g c = λ before waits.
    let start = with_state before c.args.self.now.kept in
    let there = c.place_of-place.ensures start waits in
    kept_then c.self.inside.engine.state c.self.inside.group start c.args.«record».now c.self.view_is c.requires.alone there c.in_ok-next.ensures.place
