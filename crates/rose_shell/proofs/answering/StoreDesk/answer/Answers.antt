use Rattle.rose_shell.specs.Running.{StoreTerms}
use Rattle.rose_shell.proofs.Treatments.{settled_still, answered_still}
use Rattle.rose_shell.proofs.answering.StoreDesk.answer.Goals as goal

-- a line that is no command calls no file
pub returns-in-Err-Bad-clause-told : goal.returns-in-Err-Bad-clause-told
returns-in-Err-Bad-clause-told g c = λ tells.
    answered_still StoreTerms (g.W.Outside.view c.args.world.now) c.args.self.now c.args.line.now c.refuse_text.result c.told.result
    c.told.ensures (c.requires.rest tells)

-- and want of memory for one leaves all
pub returns-in-Err-NoMemory-clause-told : goal.returns-in-Err-NoMemory-clause-told
returns-in-Err-NoMemory-clause-told g c = λ tells. settled_still (c.requires.rest tells)
