use Rattle.rose_shell.proofs.Batches.{opens_by, bad_opens_none}
use Rattle.rose_shell.proofs.waiting.batch_size.Goals as goal

-- the line is the text of no other command
pub returns-in-Ok : goal.returns-in-Ok
returns-in-Ok c =
    let read = c.in-Ok.ensures in
    opens_by c.size_of.result c.args.line.now c.in-Ok.command c.requires.short read.command read.only c.size_of.ensures

-- or of none
pub returns-in-Err-Bad : goal.returns-in-Err-Bad
returns-in-Err-Bad c = bad_opens_none c.in-Err-Bad.field-0-is c.in-Err-Bad.ensures.bad
