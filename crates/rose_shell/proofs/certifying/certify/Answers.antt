use Rattle.std.proofs.Common.{inl, inr, ap, Err}
use Rattle.realm_store.proofs.OneReading.{one_reading}
use Rattle.realm_files.proofs.Rests.{stable_then}
use Rattle.rose_shell.proofs.Rises.{rose_behind, unstarted}
use Rattle.rose_shell.proofs.Syncs.{stable_by}
use Rattle.rose_shell.proofs.Tellings.{items_behind}
use Rattle.rose_shell.proofs.Unstarted.{damaged_at_start, not_begun}
use Rattle.rose_shell.proofs.certifying.certify.Goals as goal

-- the certificate is that of the journal of what the files stand for
pub returns-in-Ok-clause-told : goal.returns-in-Ok-clause-told
returns-in-Ok-clause-told g c = λ tells.
    let then = c.give_journal.ensures.goes_on.tells tells in
    let started = c.in-Ok.ensures.told then in
    let (list, is_certificate, gives) = c.give_journal.ensures.told tells in
    let outside = g.met.W.Outside in
    inr record {
      kept = c.in-Ok.started.store.kept;
      rests = started.stands.0;
      base = c.in-Ok.started.journal.base;
      records = c.in-Ok.started.journal.records;
      journal = c.in-Ok.ensures.journal then;
      list = list;
      is_certificate = is_certificate;
      gives = items_behind started.asks gives;
      stable = stable_then gives.some.files (stable_by (λ t m early may. outside.counts_now _ t m then early may)
          (λ f. outside.reads_an_image _ f then) started.asks.files (started.opened (λ is. cc)));
    }

-- a sink that failed has risen since the start
pub returns-in-Ok-clause-complete : goal.returns-in-Ok-clause-complete
returns-in-Ok-clause-complete g c = λ tells sink disk state stands.
    elim c.give_journal.ensures.ends [
      | inl done ↦ inl done
      | inr other ↦ elim other [
        | inl fault ↦ absurd (sink (rose_behind c.start_with_journal.ensures.goes_on.sink_faults (c.give_journal.ensures.sink_fault fault)))
        | inr memory ↦ inr memory
      ]
    ]

-- the disk didn't fail, and the file isn't damaged
pub returns-in-Err-clause-complete : goal.returns-in-Err-clause-complete
returns-in-Err-clause-complete g c = λ tells sink disk state stands.
    unstarted c.in-Err.error c.from.ensures
    (λ is. disk (c.in-Err.ensures.disk_fault (ap Err is)))
    (λ d is. one_reading d _ state ((c.in-Err.ensures.told tells).damaged d (ap Err is)) stands)

-- where no store is started, the cause is told
pub returns-in-Err-clause-damaged : goal.returns-in-Err-clause-damaged
returns-in-Err-clause-damaged g c = λ d is tells.
    (c.in-Err.ensures.told tells).damaged d (ap Err (damaged_at_start c.in-Err.error _ d c.from.ensures is))

pub returns-in-Err-clause-told : goal.returns-in-Err-clause-told
returns-in-Err-clause-told g c = λ tells.
    let started = c.in-Err.ensures.told tells in
    let outside = g.met.W.Outside in
    inl (not_begun c.in-Err.error _ c.from.ensures started.asks (λ d is. (
      started.damaged d (ap Err is),
      stable_by (λ t m early may. outside.counts_now _ t m tells early may) (λ f. outside.reads_an_image _ f tells)
          started.asks.files (started.opened (λ other. cc)),
    )))
