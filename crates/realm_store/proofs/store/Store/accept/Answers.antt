use Rattle.std.proofs.Common.{Ok, ap, subst}
use Rattle.realm_store.specs.Keeping.{SpendableKept}
use Rattle.realm_store.specs.ReadyRecords.{IsRemade}
use Rattle.realm_store.proofs.Acceptances.{accepts, gate_before, accepted_from}
use Rattle.realm_store.proofs.store.Store.accept.Goals as goal

-- what is ready to be written is of the state before, whose files rest
pub write_ready-requires-clause-gate : goal.write_ready-requires-clause-gate
write_ready-requires-clause-gate g c =
    let stays = c.in_ok-ready.ensures.unchanged (λ no. absurd cc) in
    let made = subst (λ (s : SpendableKept). IsRemade s.kept c.args.r.now c.replay.new.self) stays
    (c.in_ok-replay.ensures.remade (ap (λ failed. Ok failed) c.in-None.is)) in
    gate_before c.in_ok-ready.ensures.made made (λ t. c.requires.rest t)

-- so it is written from there,
pub returns-in_err-write_ready-in-None-clause-cut_off : goal.returns-in_err-write_ready-in-None-clause-cut_off
returns-in_err-write_ready-in-None-clause-cut_off g c = λ failed t.
    let stays = c.in_ok-ready.ensures.unchanged (λ no. absurd cc) in
    let made = subst (λ (s : SpendableKept). IsRemade s.kept c.args.r.now c.replay.new.self) stays
    (c.in_ok-replay.ensures.remade (ap (λ failed. Ok failed) c.in-None.is)) in
    let waits = c.in_ok-ready.ensures.made in
    let two = c.in_err-write_ready-in-None.ensures in
    let keeps = accepted_from waits made (c.requires.rest (two.goes_on.tells t)) (two.told t) in
    (_, accepts waits made, keeps.written)
