use Rattle.std.proofs.Common.{[], ◌∷◌, ◌++◌, ◌∙◌, ap, sym, arith}
use Rattle.std.proofs.lemmas.Result.{IfErr-weaker}
use Rattle.rose_shell.proofs.Results.{both_ok, err_by}
use Rattle.rose_shell.proofs.Runs.{went_none, stopped_none, stopped_at}
use Rattle.rose_shell.proofs.Batches.{waits_more, went_full, full_stops}
use Rattle.rose_shell.proofs.hearing.hear_in_batch.Goals as goal

-- memory has run out before the line was kept for its batch
pub returns-in_err-add-clause-stopped : goal.returns-in_err-add-clause-stopped
returns-in_err-add-clause-stopped g c =
    err_by c.from_residual.result c.from_residual.ensures.1
    (λ fault memory. λ line held is waits t. stopped_at memory (stopped_none (held ++ line ∷ []) (c.requires.rest t)))

-- more lines of the batch are still to come
pub returns-then-input-gt0-clause-went : goal.returns-then-input-gt0-clause-went
returns-then-input-gt0-clause-went g c = λ line held is waits t.
    let added = c.in_ok-add.ensures in
    went_none (c.requires.rest t)
    (waits_more c.args.input.now.waiting c.add.new.self held line waits c.requires.some added.missing
    (added.lines line (c.deref.ensures.value ∙ is)) c.if-input-gt0.true)

-- none is, and the batch is answered
pub returns-clause-went : goal.returns-clause-went
returns-clause-went g c =
    let added = c.in_ok-add.ensures in
    both_ok c.answer_waiting.result
    (λ told none. λ line held is waits t.
    went_full c.args.input.now.waiting c.add.new.self line c.requires.some added.missing (added.lines line (c.deref.ensures.value ∙ is))
    (omega (arith, c.if-input-gt0.false)) held waits (c.requires.rest (c.answer_waiting.ensures.goes_on.tells t)) none (told t))
    c.answer_waiting.ensures.told c.answer_waiting.ensures.none_waits

-- or the sink or memory fails
pub returns-clause-stopped : goal.returns-clause-stopped
returns-clause-stopped g c =
    let added = c.in_ok-add.ensures in
    IfErr-weaker c.answer_waiting.result _ _
    (λ fault cut. λ line held is waits t.
    full_stops c.args.input.now.waiting c.add.new.self line fault c.requires.some added.missing
    (added.lines line (c.deref.ensures.value ∙ is))
    (omega (arith, c.if-input-gt0.false)) held waits (c.requires.rest (c.answer_waiting.ensures.goes_on.tells t)) (cut.0 t)
    (λ memory. ap (λ w. g.W.Outside.view w) (sym (cut.1 memory))))
    c.answer_waiting.ensures.cut
