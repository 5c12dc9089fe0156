use Rattle.rose_shell.proofs.AtDesk.{change_at_desk}
use Rattle.rose_shell.proofs.answering.answer_change.Goals as goal

-- the change is made, or refused, or joins the group
pub returns-clause-at_desk : goal.returns-clause-at_desk
returns-clause-at_desk g c =
    let done = c.commit_line-done.ensures in
    change_at_desk g.W.Outside c.requires.ready c.requires.intact c.requires.rest c.args.change.now c.commit_line-done.result
    c.told_of_change.ensures c.requires.says done.made done.refused done.grouped done.untouched done.spent done.intact
    done.disk_fault done.rest done.written done.cut_off
