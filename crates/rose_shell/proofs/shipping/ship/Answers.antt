use Rattle.std.proofs.Common.{inl, inr, ap, ◌∙◌, subst, List, Err}
use Rattle.standby_core.specs.declared.frame.Frame.{Frame}
use Rattle.rose_shell.specs.Shipping.{GivesFrames}
use Rattle.realm_store.proofs.OneReading.{one_reading}
use Rattle.realm_files.proofs.Rests.{stable_then}
use Rattle.rose_shell.proofs.Rises.{rose_behind, unstarted}
use Rattle.rose_shell.proofs.Stores.{present_alone}
use Rattle.rose_shell.proofs.Syncs.{stable_by}
use Rattle.rose_shell.proofs.Tellings.{frames_behind}
use Rattle.rose_shell.proofs.Unstarted.{damaged_at_start, not_begun}
use Rattle.rose_shell.proofs.shipping.ship.Goals as goal

-- the frames are those of the journal of what the files stand for
pub returns-in-Ok-lacking-clause-told : goal.returns-in-Ok-lacking-clause-told
returns-in-Ok-lacking-clause-told g c = λ tells.
    let then = c.give_frames.ensures.goes_on.tells tells in
    let started = c.in-Ok.ensures.told then in
    let kept = c.in-Ok.started.store.kept in
    let gave = c.give_frames.ensures.told tells in
    let sent = c.in-Ok-lacking.ensures.sent in
    let outside = g.met.W.Outside in
    inr record {
      kept = kept;
      rests = started.stands.0;
      base = c.in-Ok.started.journal.base;
      records = c.in-Ok.started.journal.records;
      journal = c.in-Ok.ensures.journal then;
      now = sent.0;
      is_present = sent.1 ∙ present_alone c.in-Ok.started.store c.in-Ok.ensures.no_group;
      frames = c.in-Ok-lacking.frames.items;
      are_sent = sent.2;
      gives = frames_behind started.asks (subst (λ (l : List Frame). GivesFrames (g.W.Outside.view c.start_with_journal.new.world)
          (g.W.Outside.view c.give_frames.new.world) l c.give_frames.result) c.deref.ensures.value gave);
      stable = stable_then gave.some.files (stable_by (λ t m early may. outside.counts_now _ t m then early may)
          (λ f. outside.reads_an_image _ f then) started.asks.files (started.opened (λ is. cc)));
    }

-- a sink that failed has risen since the start
pub returns-in-Ok-lacking-clause-complete : goal.returns-in-Ok-lacking-clause-complete
returns-in-Ok-lacking-clause-complete g c = λ tells sink disk state stands.
    elim c.give_frames.ensures.ends [
      | inl done ↦ inl done
      | inr other ↦ elim other [
        | inl fault ↦ absurd (sink (rose_behind c.start_with_journal.ensures.goes_on.sink_faults (c.give_frames.ensures.sink_fault fault)))
        | inr memory ↦ inr memory
      ]
    ]

-- the disk didn't fail, and the file isn't damaged
pub returns-in-Err-clause-complete : goal.returns-in-Err-clause-complete
returns-in-Err-clause-complete g c = λ tells sink disk state stands.
    unstarted c.in-Err.error c.from.ensures
    (λ is. disk (c.in-Err.ensures.disk_fault (ap Err is)))
    (λ d is. one_reading d _ state ((c.in-Err.ensures.told tells).damaged d (ap Err is)) stands)

-- where no store is started, the cause is told
pub returns-in-Err-clause-damaged : goal.returns-in-Err-clause-damaged
returns-in-Err-clause-damaged g c = λ d is tells.
    (c.in-Err.ensures.told tells).damaged d (ap Err (damaged_at_start c.in-Err.error _ d c.from.ensures is))

pub returns-in-Err-clause-told : goal.returns-in-Err-clause-told
returns-in-Err-clause-told g c = λ tells.
    let started = c.in-Err.ensures.told tells in
    let outside = g.met.W.Outside in
    inl (not_begun c.in-Err.error _ c.from.ensures started.asks (λ d is. (
      started.damaged d (ap Err is),
      stable_by (λ t m early may. outside.counts_now _ t m tells early may) (λ f. outside.reads_an_image _ f tells)
          started.asks.files (started.opened (λ other. cc)),
    )))
