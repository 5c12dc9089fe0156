use Rattle.std.proofs.Common.{sym, ◌∙◌, refl}
use Rattle.rose_shell.proofs.Results.{err_by}
use Rattle.rose_shell.proofs.Treatments.{gave_whole}
use Rattle.rose_shell.proofs.Batches.{told_by, untold_at, untold_memory}
use Rattle.rose_shell.proofs.hearing.answer_waiting.Goals as goal

-- the lines are answered in the state of the desk, and the reply is given whole
pub returns-clause-told : goal.returns-clause-told
returns-clause-told g c = λ t.
    told_by _ c.engine.ensures.tells c.as_slice.ensures.value c.bytes.ensures c.in_ok-reply.ensures.answer
    (gave_whole (c.in_ok-give_all.ensures.told t))

-- the sink has failed within the reply
pub returns-in_err-give_all-clause-cut : goal.returns-in_err-give_all-clause-cut
returns-in_err-give_all-clause-cut g c =
    let failed = c.in_err-give_all.ensures in
    err_by c.from_residual-in_err-give_all.result c.from_residual-in_err-give_all.ensures.1
    (λ fault same. (
      λ t. untold_at (same ∙ failed.sink)
          (_, told_by _ c.engine.ensures.tells c.as_slice.ensures.value c.bytes.ensures c.in_ok-reply.ensures.answer (failed.told t).some),
      λ memory. let both = sym (same ∙ failed.sink) ∙ memory in absurd (cc),
    ))

-- or memory has run out before there was one
pub returns-in_err-reply-clause-cut : goal.returns-in_err-reply-clause-cut
returns-in_err-reply-clause-cut g c =
    err_by c.from_residual.result c.from_residual.ensures.1
    (λ fault memory.
    let view = g.W.Outside.view c.args.world.now in
    (λ t. untold_memory g.D.Desk.terms view view c.args.desk.now c.args.waiting.now.lines.items fault memory, λ _. refl))
