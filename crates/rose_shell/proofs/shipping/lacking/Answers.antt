use Rattle.std.proofs.Common.{◌≡◌, ◌∙◌, List, sym, subst}
use Rattle.std.specs.Prelude.{All}
use Rattle.std.proofs.lemmas.Result.{IfOk-weaker}
use Rattle.record_codec.specs.Fitting.{IsRecord}
use Rattle.record_codec.specs.declared.record.Record.{Record}
use Rattle.record_codec.specs.declared.snapshot.Snapshot.{Snapshot}
use Rattle.realm_insert.specs.Snapshots.{state_of}
use Rattle.realm_store.specs.Keeping.{present}
use Rattle.standby_core.specs.Shipping.{AreSent}
use Rattle.rose_shell.proofs.shipping.lacking.Goals as goal

-- the frames are made of the records of the journal, and of the state at present
pub returns-clause-sent : goal.returns-clause-sent
returns-clause-sent c =
    let base = c.args.started.journal.base.changes in
    let k = c.args.changes in
    let now = c.in_ok-now.now in
    let are = c.deref.ensures.value ∙ c.in_ok-list.ensures in
    IfOk-weaker c.frames_for.result (λ v. AreSent base c.deref.result.now now k v.items)
    (λ frames. (now : Snapshot) × (state_of now ≡ present c.args.started.store) × AreSent base c.args.started.journal.records now k frames.items)
    (λ v sent. (
      now,
      c.in_ok-now.ensures.kept.1 ∙ c.state.ensures.state,
      subst (λ (l : List Record). AreSent base l now k v.items) are sent,
    )) c.frames_for.ensures.sent

-- and each has a text
pub returns-clause-with_text : goal.returns-clause-with_text
returns-clause-with_text c =
    let are = c.deref.ensures.value ∙ c.in_ok-list.ensures in
    c.frames_for.ensures.with_text (subst (λ (l : List Record). All IsRecord l) (sym are) c.requires.records) c.in_ok-now.ensures.kept.0
