use Rattle.std.proofs.Common.{◌≤◌, ℕ, List, length, inl, inr, subst, sym, ap, Err}
use Rattle.realm_store.proofs.OneReading.{one_reading}
use Rattle.rose_shell.proofs.Rises.{rose_behind, unstarted}
use Rattle.rose_shell.proofs.Syncs.{stable_by}
use Rattle.rose_shell.proofs.Unstarted.{damaged_at_start, not_begun}
use Rattle.rose_shell.proofs.Followers.{following_by, alone_to_end, alone_undamaged}
use Rattle.rose_shell.proofs.following.follow.Goals as goal

-- a store that was started tells no damage
pub returns-in-Ok-clause-damaged : goal.returns-in-Ok-clause-damaged
returns-in-Ok-clause-damaged g c = λ d is tells.
    absurd (alone_undamaged c.answer_lines.result (c.answer_lines.ensures.told tells) is)

-- the session goes on from what the files were read as
pub returns-in-Ok-clause-told : goal.returns-in-Ok-clause-told
returns-in-Ok-clause-told g c = λ tells.
    let then = c.answer_lines.ensures.goes_on.tells tells in
    let first = c.start.ensures.goes_on.tells then in
    let started = c.in-Ok.ensures.told then in
    let outside = g.met.W.Outside in
    inr (following_by (λ t m early may. outside.counts_now _ t m first early may) (λ m left. outside.only_now _ m first left)
    (λ a asked. outside.none_asked _ a first asked) started.asks c.in-Ok.ensures.ready c.in-Ok.ensures.no_group
    (started.opened (λ is. cc)) started.stands.0 started.stands.1 c.state-state.ensures.kept_sound
    (c.answer_lines.ensures.told tells))

-- where no count rises from the call on, none rises from the start on
pub returns-in-Ok-clause-complete : goal.returns-in-Ok-clause-complete
returns-in-Ok-clause-complete g c = λ tells source sink disk within state stands.
    let went = c.start.ensures.goes_on in
    let cause = c.answer_lines.ensures.reason.cause in
    let started = c.in-Ok.ensures.told (c.answer_lines.ensures.goes_on.tells tells) in
    alone_to_end c.answer_lines.result (c.answer_lines.ensures.told tells)
    (λ is. source (rose_behind went.source_faults (cause.source is)))
    (λ is. sink (rose_behind went.sink_faults (cause.sink is)))
    (λ is. disk (rose_behind went.disk_faults (cause.disk is)))
    (subst (λ (l : List ℕ). length l ≤ c.args.budget) (sym started.asks.takes.left) within)

-- the disk didn't fail, and the file isn't damaged
pub returns-in-Err-clause-complete : goal.returns-in-Err-clause-complete
returns-in-Err-clause-complete g c = λ tells source sink disk within state stands.
    unstarted c.in-Err.error c.from.ensures
    (λ is. disk (c.in-Err.ensures.disk_fault (ap Err is)))
    (λ d is. one_reading d _ state ((c.in-Err.ensures.told tells).damaged d (ap Err is)) stands)

-- where no store is started, the cause is told
pub returns-in-Err-clause-damaged : goal.returns-in-Err-clause-damaged
returns-in-Err-clause-damaged g c = λ d is tells.
    (c.in-Err.ensures.told tells).damaged d (ap Err (damaged_at_start c.in-Err.error _ d c.from.ensures is))

pub returns-in-Err-clause-told : goal.returns-in-Err-clause-told
returns-in-Err-clause-told g c = λ tells.
    let started = c.in-Err.ensures.told tells in
    let outside = g.met.W.Outside in
    inl (not_begun c.in-Err.error _ c.from.ensures started.asks (λ d is. (
      started.damaged d (ap Err is),
      stable_by (λ t m early may. outside.counts_now _ t m tells early may) (λ f. outside.reads_an_image _ f tells)
          started.asks.files (started.opened (λ other. cc)),
    )))
