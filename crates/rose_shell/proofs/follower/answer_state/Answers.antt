use Rattle.std.proofs.Common.{◌≡◌, inl, inr, refl, ◌∙◌, subst, ap, Err}
use Rattle.std.specs.Prelude.{IfOk}
use Rattle.pair_law.specs.Following.{reply_of}
use Rattle.pair_law.specs.Following.Outcome.{NoFrame, PassedOver, NoGeneration}
use Rattle.rose_shell.proofs.Results.{err_is}
use Rattle.rose_shell.proofs.AtDesk.{not_true}
use Rattle.rose_shell.proofs.AtFollower.{wanting_at_follower, said_at_follower, adopted_at_follower, state_cut_at_follower}
use Rattle.rose_shell.proofs.AtFollower.{passed_state, no_generation_for_state, unsound_state}
use Rattle.rose_shell.proofs.follower.answer_state.Goals as goal

-- there is no memory for the acknowledgement
pub returns-in_err-reply-clause-at_follower : goal.returns-in_err-reply-clause-at_follower
returns-in_err-reply-clause-at_follower g c = λ line is.
    wanting_at_follower g.W.Outside c.requires.left refl (err_is c.from_residual.result c.from_residual.ensures.1)

-- the state has taken the place of what was kept
pub returns-in-Ok-clause-at_follower : goal.returns-in-Ok-clause-at_follower
returns-in-Ok-clause-at_follower g c = λ line is.
    let done = c.in-Ok.ensures in
    let unspent = not_true c.adopt.new.self.spent (λ spends. elim (done.spent.0 spends) [ inl disk ↦ cc | inr memory ↦ cc ]) in
    adopted_at_follower g.W.Outside c.requires.left c.args.s is done.adopted unspent done.alone (done.intact (λ fault. cc))
    c.in_ok-reply.ensures done.replaced done.rest

-- it isn't valid
pub returns-in-Err-Invalid-clause-at_follower : goal.returns-in-Err-Invalid-clause-at_follower
returns-in-Err-Invalid-clause-at_follower g c = λ line is.
    let done = c.adopt.ensures in
    let invalid = c.in-Err-Invalid.is ∙ ap Err c.in-Err-Invalid.field-0-is in
    let why = done.unchanged (inl invalid) in
    said_at_follower g.W.Outside c.requires.left NoFrame c.say.result why.1 why.0 c.told.ensures c.say.ensures
    (unsound_state c.args.s is (done.invalid invalid))

-- it has no more changes
pub returns-in-Err-Older-clause-at_follower : goal.returns-in-Err-Older-clause-at_follower
returns-in-Err-Older-clause-at_follower g c = λ line is.
    let done = c.adopt.ensures in
    let have = c.in-Err-Older.have in
    let is_older = c.in-Err-Older.is ∙ ap Err c.in-Err-Older.field-0-is in
    let older = done.older have is_older in
    let why = done.unchanged (inr (inl (have, is_older))) in
    let said = rw (c.in-Err-Older.field-0-is) at c.acknowledge-in-Err-Older.ensures in
    said_at_follower g.W.Outside c.requires.left PassedOver c.acknowledge-in-Err-Older.result why.1 why.0 c.told-in-Err-Older.ensures
    (subst (λ n. IfOk c.acknowledge-in-Err-Older.result (λ reply. reply ≡ reply_of PassedOver n)) older.1 said)
    (passed_state c.args.s is older.0 older.1 older.2)

-- there is no generation for it
pub returns-in-Err-Generations-clause-at_follower : goal.returns-in-Err-Generations-clause-at_follower
returns-in-Err-Generations-clause-at_follower g c = λ line is.
    let done = c.adopt.ensures in
    let is_last = c.in-Err-Generations.is ∙ ap Err c.in-Err-Generations.field-0-is in
    let last = done.generations is_last in
    let why = done.unchanged (inr (inr is_last)) in
    said_at_follower g.W.Outside c.requires.left NoGeneration c.say-in-Err-Generations.result why.1 why.0
    c.told-in-Err-Generations.ensures c.say-in-Err-Generations.ensures
    (no_generation_for_state c.args.s is last.0 last.1 last.2)

-- the disk failed meanwhile
pub returns-in-Err-Disk-clause-at_follower : goal.returns-in-Err-Disk-clause-at_follower
returns-in-Err-Disk-clause-at_follower g c = λ line is.
    let done = c.adopt.ensures in
    let fault = c.in-Err-Disk.is ∙ ap Err c.in-Err-Disk.field-0-is in
    state_cut_at_follower g.W.Outside c.requires.left c.args.s is (done.disk_fault fault) (done.cut_off fault)

-- or memory ran out
pub returns-clause-at_follower : goal.returns-clause-at_follower
returns-clause-at_follower g c = λ line is.
    wanting_at_follower g.W.Outside c.requires.left
    (c.adopt.ensures.untouched (c.in-Err-NoMemory.is ∙ ap Err c.in-Err-NoMemory.field-0-is)) refl
