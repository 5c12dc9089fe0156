use Rattle.std.proofs.Common.{[], ◌∷◌, ◌++◌, sym, ◌∙◌}
use Rattle.rose_shell.specs.declared.waiting.Waiting.{Waiting}
use Rattle.rose_shell.proofs.Results.{err_by}
use Rattle.rose_shell.proofs.Runs.{went_none, stopped_none, stopped_at}
use Rattle.rose_shell.proofs.Treatments.{went_kept, stopped_kept, went_long, stopped_long, went_short, stopped_short}
use Rattle.rose_shell.proofs.Treatments.{stopped_unanswered, gave_whole}
use Rattle.rose_shell.proofs.Batches.{waits_first, went_first, stopped_first, asked_by}
use Rattle.rose_shell.proofs.hearing.hear.Goals as goal
use Rattle.rose_shell.proofs.hearing.hear.Goals.{in-Refusal+in_ok-give_all-in-Refusal, in-Batch}
use Rattle.rose_shell.proofs.hearing.hear.Goals.{in-Answer+in_ok-reply-in-Answer+in_ok-give_all-in-Answer}

-- memory has run out before it was known what the line asks for
pub returns-in_err-line_asks-clause-stopped : goal.returns-in_err-line_asks-clause-stopped
returns-in_err-line_asks-clause-stopped g c =
    err_by c.from_residual.result c.from_residual.ensures.1
    (λ fault memory. λ line held is waits t. stopped_at memory (stopped_none (held ++ line ∷ []) (c.requires.rest t)))

-- the line is too long, and the sink has failed within its refusal
pub returns-in_err-give_all-in-Refusal-clause-stopped : goal.returns-in_err-give_all-in-Refusal-clause-stopped
returns-in_err-give_all-in-Refusal-clause-stopped g c =
    let failed = c.in_err-give_all-in-Refusal.ensures in
    let long = asked_by c.deref.ensures.value c.in-Refusal.is c.in_ok-line_asks.ensures in
    err_by c.from_residual-in_err-give_all-in-Refusal.result c.from_residual-in_err-give_all-in-Refusal.ensures.1
    (λ fault same. λ line held is waits t.
    stopped_first c.args.input.now.waiting held waits c.if-input-gt0.false
    (stopped_at (same ∙ failed.sink) (stopped_long line long is (c.requires.rest (failed.goes_on.tells t)) (failed.told t).some)))

-- the desk has stopped before there was a reply
pub returns-in_err-reply-in-Answer-clause-stopped : goal.returns-in_err-reply-in-Answer-clause-stopped
returns-in_err-reply-in-Answer-clause-stopped g c =
    let same_line = c.deref-in-Answer.ensures.value in
    let asked = asked_by (c.deref.ensures.value ∙ sym same_line) c.in-Answer.is c.in_ok-line_asks.ensures in
    err_by c.from_residual-in_err-reply-in-Answer.result c.from_residual-in_err-reply-in-Answer.ensures.1
    (λ fault same. λ line held is waits t.
    stopped_first c.args.input.now.waiting held waits c.if-input-gt0.false
    (stopped_at same
    (stopped_kept asked.0 (same_line ∙ is)
    (stopped_unanswered c.in_err-reply-in-Answer.field-0.0 asked.0 asked.1 (c.in_err-reply-in-Answer.ensures.told t)))))

-- or there is one, and the sink has failed within it
pub returns-in_err-give_all-in-Answer-clause-stopped : goal.returns-in_err-give_all-in-Answer-clause-stopped
returns-in_err-give_all-in-Answer-clause-stopped g c =
    let same_line = c.deref-in-Answer.ensures.value in
    let asked = asked_by (c.deref.ensures.value ∙ sym same_line) c.in-Answer.is c.in_ok-line_asks.ensures in
    let answered = c.in_ok-reply-in-Answer.ensures in
    let failed = c.in_err-give_all-in-Answer.ensures in
    err_by c.from_residual-in_err-give_all-in-Answer.result c.from_residual-in_err-give_all-in-Answer.ensures.1
    (λ fault same. λ line held is waits t.
    stopped_first c.args.input.now.waiting held waits c.if-input-gt0.false
    (stopped_at (same ∙ failed.sink)
    (stopped_kept asked.0 (same_line ∙ is)
    (stopped_short asked.0 asked.1 answered.answer (answered.told (failed.goes_on.tells t)) c.bytes.ensures (failed.told t).some))))

-- the line is refused, or begins a batch, or is answered, and the reply is given whole
pub returns-clause-went : goal.returns-clause-went
returns-clause-went g c = λ line held is waits.
    elim c.match-branch-2.branch [
      | in-Refusal+in_ok-give_all-in-Refusal w ↦
          let gave = w.in_ok-give_all-in-Refusal.ensures in
          let long = asked_by c.deref.ensures.value w.in-Refusal.is c.in_ok-line_asks.ensures in
          rw (w.desk-is, w.world-is, w.input-is)
          (λ t. went_first c.args.input.now.waiting held waits c.if-input-gt0.false
          (λ none. went_long line long is (c.requires.rest (gave.goes_on.tells t)) (gave_whole (gave.told t)) none))
      | in-Batch w ↦
          let opens = asked_by c.deref.ensures.value w.in-Batch.is c.in_ok-line_asks.ensures in
          let waiting : Waiting = record { missing = w.in-Batch.size; lines = c.args.input.now.waiting.lines } in
          rw (w.desk-is, w.world-is, w.input-is)
          (λ t. went_first c.args.input.now.waiting held waits c.if-input-gt0.false
          (λ none. went_none (c.requires.rest t) (waits_first waiting opens.0 is opens.1 opens.2 none.1)))
      | in-Answer+in_ok-reply-in-Answer+in_ok-give_all-in-Answer w ↦
          let gave = w.in_ok-give_all-in-Answer.ensures in
          let same_line = w.deref-in-Answer.ensures.value in
          let asked = asked_by (c.deref.ensures.value ∙ sym same_line) w.in-Answer.is c.in_ok-line_asks.ensures in
          let answered = w.in_ok-reply-in-Answer.ensures in
          rw (w.desk-is, w.world-is, w.input-is)
          (λ t. went_first c.args.input.now.waiting held waits c.if-input-gt0.false (λ none.
          went_kept asked.0 (same_line ∙ is)
          (went_short asked.0 asked.1 answered.answer (answered.told (gave.goes_on.tells t)) w.bytes.ensures
          (gave_whole (gave.told t)) none)))
    ]
