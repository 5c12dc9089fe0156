use Rattle.rose_shell.proofs.Audits.{audited_given, audited_limit, audited_err}
use Rattle.rose_shell.proofs.auditing.audit_input.Goals as goal

-- the reply is given
pub returns-in-Ok-Some-clause-told : goal.returns-in-Ok-Some-clause-told
returns-in-Ok-Some-clause-told g c = λ t.
    audited_given c.args.budget c.in-Ok-Some.reply c.in-Ok-Some.field-0-is (c.in-Ok-Some.ensures.told (c.give_lines.ensures.goes_on.tells t)) (c.give_lines.ensures.told t)

-- the input is longer than the budget
pub returns-in-Ok-None-clause-told : goal.returns-in-Ok-None-clause-told
returns-in-Ok-None-clause-told g c = λ t. audited_limit c.args.budget c.in-Ok-None.field-0-is (c.in-Ok-None.ensures.told t)

-- the source failed, or memory ran out
pub returns-in-Err-clause-told : goal.returns-in-Err-clause-told
returns-in-Err-clause-told g c = λ t. audited_err (c.in-Err.ensures.told t) c.in-Err.ensures.ends c.from.ensures
