use Rattle.std.proofs.Common.{refl}
use Rattle.rose_shell.proofs.Results.{err_is}
use Rattle.rose_shell.proofs.Stores.{none_open}
use Rattle.rose_shell.proofs.AtDesk.{spent_at_desk, in_group_at_desk, checkpoint_at_desk}
use Rattle.rose_shell.proofs.answering.answer_checkpoint.Goals as goal

-- a group is open, and nothing is done
pub returns-then-in_group-clause-at_desk : goal.returns-then-in_group-clause-at_desk
returns-then-in_group-clause-at_desk g c = λ line says.
    in_group_at_desk g.W.Outside c.requires.ready c.requires.intact c.requires.rest c.refuse_in_group.result c.told.ensures
    c.refuse_in_group.ensures (c.in_group.ensures.0 c.if-in_group.true) says

-- memory runs out before there is a reply
pub returns-in_err-reply-clause-at_desk : goal.returns-in_err-reply-clause-at_desk
returns-in_err-reply-clause-at_desk g c = λ line says.
    spent_at_desk g.W.Outside refl (err_is c.from_residual.result c.from_residual.ensures.1) c.requires.intact c.requires.rest

-- or the checkpoint is made, or refused
pub returns-clause-at_desk : goal.returns-clause-at_desk
returns-clause-at_desk g c = λ line says.
    let done = c.checkpoint.ensures in
    let none = none_open c.args.store.now.group (λ has.
    let open_then = c.in_group.ensures.1 has in
    let is_not = c.if-in_group.false in
    cc) in
    checkpoint_at_desk g.W.Outside c.requires.ready c.requires.intact c.requires.rest c.checkpoint.result c.told_of_checkpoint.ensures
    c.in_ok-reply.ensures says none done.renewed done.alone done.generations done.unchanged done.untouched done.spent done.intact
    done.disk_fault done.rest done.replaced done.cut_off
