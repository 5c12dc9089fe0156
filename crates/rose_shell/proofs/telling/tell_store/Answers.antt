use Rattle.std.proofs.Common.{inl, inr, subst, ap, ◌∙◌, Err}
use Rattle.realm_insert.specs.State.{State}
use Rattle.state_counts.specs.Counts.{TellsCounts}
use Rattle.realm_store.proofs.OneReading.{one_reading}
use Rattle.rose_shell.proofs.Rises.{rose_behind, unstarted}
use Rattle.realm_files.proofs.Rests.{stable_then}
use Rattle.rose_shell.proofs.Stores.{present_alone}
use Rattle.rose_shell.proofs.Syncs.{stable_by}
use Rattle.rose_shell.proofs.Tellings.{lines_behind}
use Rattle.rose_shell.proofs.Unstarted.{damaged_at_start, not_begun}
use Rattle.rose_shell.proofs.telling.tell_store.Goals as goal

-- the files stand for the state whose numbers are told
pub returns-in-Ok-count_state-clause-told : goal.returns-in-Ok-count_state-clause-told
returns-in-Ok-count_state-clause-told g c = λ tells.
    let then = c.give_lines.ensures.goes_on.tells tells in
    let started = c.in-Ok.ensures.told then in
    let kept = c.in-Ok.store.kept in
    let gave = c.give_lines.ensures.told tells in
    let outside = g.met.W.Outside in
    inr (
      kept.state,
      c.in-Ok-count_state.lines,
      (kept.place, started.stands.0.stands),
      subst (λ (s : State). TellsCounts s c.in-Ok-count_state.lines)
          (c.state.ensures.state ∙ present_alone c.in-Ok.store c.in-Ok.ensures.no_group) c.in-Ok-count_state.ensures,
      lines_behind started.asks gave,
      stable_then gave.some.files (stable_by (λ t m early may. outside.counts_now _ t m then early may)
          (λ f. outside.reads_an_image _ f then) started.asks.files (started.opened (λ is. cc))),
    )

-- a sink that failed has risen since the start
pub returns-in-Ok-count_state-clause-complete : goal.returns-in-Ok-count_state-clause-complete
returns-in-Ok-count_state-clause-complete g c = λ tells sink disk state stands.
    elim c.give_lines.ensures.ends [
      | inl done ↦ inl done
      | inr fault ↦ absurd (sink (rose_behind c.start.ensures.goes_on.sink_faults (c.give_lines.ensures.sink_fault fault)))
    ]

-- the disk didn't fail, and the file isn't damaged
pub returns-clause-complete : goal.returns-clause-complete
returns-clause-complete g c = λ tells sink disk state stands.
    unstarted c.in-Err.error c.from.ensures
    (λ is. disk (c.in-Err.ensures.disk_fault (ap Err is)))
    (λ d is. one_reading d _ state ((c.in-Err.ensures.told tells).damaged d (ap Err is)) stands)

-- where no store is started, the cause is told
pub returns-clause-damaged : goal.returns-clause-damaged
returns-clause-damaged g c = λ d is tells.
    (c.in-Err.ensures.told tells).damaged d (ap Err (damaged_at_start c.in-Err.error _ d c.from.ensures is))

pub returns-clause-told : goal.returns-clause-told
returns-clause-told g c = λ tells.
    let started = c.in-Err.ensures.told tells in
    let outside = g.met.W.Outside in
    inl (not_begun c.in-Err.error _ c.from.ensures started.asks (λ d is. (
      started.damaged d (ap Err is),
      stable_by (λ t m early may. outside.counts_now _ t m tells early may) (λ f. outside.reads_an_image _ f tells)
          started.asks.files (started.opened (λ other. cc)),
    )))
