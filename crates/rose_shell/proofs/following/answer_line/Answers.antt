use Rattle.std.proofs.Common.{◌∙◌, ap}
use Rattle.rose_shell.specs.Faults.{status_of}
use Rattle.rose_shell.proofs.Results.{err_by}
use Rattle.rose_shell.proofs.Treatments.{gave_whole}
use Rattle.rose_shell.proofs.LinesAlone.{did_one, halted_one, halted_before, halted_at}
use Rattle.rose_shell.proofs.following.answer_line.Goals as goal

-- there is no reply
pub returns-in_err-reply-clause-halted : goal.returns-in_err-reply-clause-halted
returns-in_err-reply-clause-halted g c =
    err_by c.from_residual.result c.from_residual.ensures.1
    (λ status same. λ t.
    halted_at same (halted_before c.answer_frame.new.store c.in_err-reply.field-0.0 (c.in_err-reply.ensures.told t)))

-- there is one, and it is given whole
pub returns-in-Ok-clause-did : goal.returns-in-Ok-clause-did
returns-in-Ok-clause-did g c = λ t.
    let then = c.give_all.ensures.goes_on.tells t in
    let answered = c.in_ok-reply.ensures in
    did_one (answered.answer then) (answered.told then) c.bytes.ensures (gave_whole (c.in-Ok.ensures.told t))

-- or in part
pub returns-clause-halted : goal.returns-clause-halted
returns-clause-halted g c = λ t.
    let then = c.give_all.ensures.goes_on.tells t in
    let answered = c.in_ok-reply.ensures in
    halted_at (c.from.ensures ∙ ap status_of c.in-Err.ensures.sink)
    (halted_one (answered.answer then) (answered.told then) c.bytes.ensures (c.in-Err.ensures.told t).some)
