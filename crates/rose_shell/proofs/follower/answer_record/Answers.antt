use Rattle.std.proofs.Common.{◌≡◌, inl, inr, refl, sym, ◌∙◌, subst, ap, Err}
use Rattle.std.specs.Prelude.{IfOk}
use Rattle.pair_law.specs.Following.{reply_of}
use Rattle.pair_law.specs.Following.Outcome.{PassedOver, NoRoom, NoGeneration}
use Rattle.rose_shell.specs.AtFollower.{AtFollower, IsLeftAs}
use Rattle.rose_shell.proofs.Results.{err_is}
use Rattle.rose_shell.proofs.AtDesk.{not_true}
use Rattle.rose_shell.proofs.AtFollower.{wanting_at_follower, said_at_follower, accepted_at_follower, record_cut_at_follower}
use Rattle.rose_shell.proofs.AtFollower.{passed_record, no_room, no_generation, taken_record, misfit}
use Rattle.rose_shell.proofs.follower.answer_record.Goals as goal

-- there is no memory for the acknowledgement
pub returns-in_err-reply-clause-at_follower : goal.returns-in_err-reply-clause-at_follower
returns-in_err-reply-clause-at_follower g c = λ line is.
    wanting_at_follower g.W.Outside c.requires.left refl (err_is c.from_residual.result c.from_residual.ensures.1)

-- the record is written
pub returns-in-Ok-clause-at_follower : goal.returns-in-Ok-clause-at_follower
returns-in-Ok-clause-at_follower g c = λ line is.
    let done = c.in-Ok.ensures in
    let unspent = not_true c.accept.new.self.spent (λ spends. elim (done.spent.0 spends) [
      | inl disk ↦ cc
      | inr other ↦ elim other [ inl memory ↦ cc | inr not_of ↦ let never = not_of.1 in cc ]
    ]) in
    accepted_at_follower g.W.Outside c.requires.left c.args.r.now is c.requires.is_record done.accepted unspent done.alone
    (done.intact (λ fault. cc)) c.last_change.ensures c.in_ok-reply.ensures done.written done.rest

-- it doesn't have the next number
pub returns-in-Err-Gap-clause-at_follower : goal.returns-in-Err-Gap-clause-at_follower
returns-in-Err-Gap-clause-at_follower g c = λ line is.
    let done = c.accept.ensures in
    let have = c.in-Err-Gap.have in
    let is_gap = c.in-Err-Gap.is ∙ ap Err c.in-Err-Gap.field-0-is in
    let gap = done.gap have is_gap in
    let why = done.unchanged (inl (have, is_gap)) in
    let said = rw (c.in-Err-Gap.field-0-is) at c.acknowledge-in-Err-Gap.ensures in
    said_at_follower g.W.Outside c.requires.left PassedOver c.acknowledge-in-Err-Gap.result why.1 why.0 c.told.ensures
    (subst (λ n. IfOk c.acknowledge-in-Err-Gap.result (λ reply. reply ≡ reply_of PassedOver n)) gap.0 said)
    (passed_record c.args.r.now is gap.0 gap.1)

-- there is no room for it
pub returns-in-Err-Full-clause-at_follower : goal.returns-in-Err-Full-clause-at_follower
returns-in-Err-Full-clause-at_follower g c = λ line is.
    let done = c.accept.ensures in
    let full = c.in-Err-Full.is ∙ ap Err c.in-Err-Full.field-0-is in
    let why = done.unchanged (inr (inl full)) in
    said_at_follower g.W.Outside c.requires.left NoRoom c.say.result why.1 why.0 c.told-in-Err-Full.ensures c.say.ensures
    (no_room c.args.r.now is (done.in_turn (λ have gap. cc)) (done.full full))

-- or no generation
pub returns-in-Err-Generations-clause-at_follower : goal.returns-in-Err-Generations-clause-at_follower
returns-in-Err-Generations-clause-at_follower g c = λ line is.
    let done = c.accept.ensures in
    let last = c.in-Err-Generations.is ∙ ap Err c.in-Err-Generations.field-0-is in
    let why = done.unchanged (inr (inr last)) in
    said_at_follower g.W.Outside c.requires.left NoGeneration c.say-in-Err-Generations.result why.1 why.0
    c.told-in-Err-Generations.ensures c.say-in-Err-Generations.ensures
    (no_generation c.args.r.now is (done.in_turn (λ have gap. cc)) (done.generations last))

-- it leads nowhere
pub returns-in-Err-NotOf-clause-at_follower : goal.returns-in-Err-NotOf-clause-at_follower
returns-in-Err-NotOf-clause-at_follower g c = λ line is.
    let done = c.accept.ensures in
    let is_not = c.in-Err-NotOf.is ∙ ap Err c.in-Err-NotOf.field-0-is in
    let why = done.not_of _ is_not in
    let r = c.args.r.now in
    let number = done.in_turn (λ have gap. cc) in
    subst (λ w. AtFollower g.W.Outside w c.start_again.new.world c.args.store.now c.start_again.new.store line c.start_again.result) why.2
    (c.start_again.ensures.at_follower c.args.store.now line r
    (subst (λ w. IsLeftAs g.W.Outside w c.args.store.now) (sym why.2) c.requires.left) is (taken_record r why.0 number) (misfit why.1))

-- the disk failed meanwhile
pub returns-in-Err-Disk-clause-at_follower : goal.returns-in-Err-Disk-clause-at_follower
returns-in-Err-Disk-clause-at_follower g c = λ line is.
    let done = c.accept.ensures in
    let fault = c.in-Err-Disk.is ∙ ap Err c.in-Err-Disk.field-0-is in
    record_cut_at_follower g.W.Outside c.requires.left c.args.r.now is c.requires.is_record (done.disk_fault fault) (done.cut_off fault)

-- or memory ran out
pub returns-clause-at_follower : goal.returns-clause-at_follower
returns-clause-at_follower g c = λ line is.
    wanting_at_follower g.W.Outside c.requires.left
    (c.accept.ensures.untouched (c.in-Err-NoMemory.is ∙ ap Err c.in-Err-NoMemory.field-0-is)) refl
