use Rattle.std.proofs.Common.{◌∙◌, ap, refl}
use Rattle.rose_shell.specs.Replies.{commit_reply}
use Rattle.rose_shell.proofs.Results.{err_is}
use Rattle.rose_shell.proofs.AtDesk.{spent_at_desk, end_at_desk}
use Rattle.rose_shell.proofs.grouping.answer_commit.Goals as goal

-- memory runs out before there is a reply
pub returns-in_err-reply-clause-at_desk : goal.returns-in_err-reply-clause-at_desk
returns-in_err-reply-clause-at_desk g c = λ line says.
    spent_at_desk g.W.Outside refl (err_is c.from_residual.result c.from_residual.ensures.1) c.requires.intact c.requires.rest

-- the reply tells the number of the changes that are written then
pub returns-clause-at_desk : goal.returns-clause-at_desk
returns-clause-at_desk g c = λ line says.
    let done = c.end_group.ensures in
    end_at_desk g.W.Outside c.requires.ready c.requires.intact c.requires.rest c.end_group.result c.told_of_end.ensures
    (c.in_ok-reply.ensures ∙ ap (λ n. commit_reply n) c.changes_in_group.ensures) says done.goes_on.tells done.ended done.none
    done.unchanged done.nothing done.untouched done.spent done.intact done.disk_fault done.rest done.written done.cut_off
