use Rattle.std.proofs.Common.{subst}
use Rattle.line_grammar.specs.Lines.{Says}
use Rattle.line_grammar.specs.declared.command.Command.{Command}
use Rattle.line_grammar.specs.declared.command.Command.TheVariants as commands
use Rattle.rose_shell.proofs.AtDesk.{query_at_desk, batch_at_desk, said_at_desk}
use Rattle.rose_shell.proofs.answering.answer_command.Goals as goal

-- the line says this command: a query is about the state at present,
pub returns-in-Query-clause-at_desk : goal.returns-in-Query-clause-at_desk
returns-in-Query-clause-at_desk g c =
    query_at_desk g.W.Outside c.requires.ready c.requires.intact c.requires.rest c.in-Query.query c.state.result.now.state
    c.answer.result c.told.ensures c.answer.ensures.answer c.state.ensures.state
    (subst (λ (command : Command). Says c.args.line.now command) c.in-Query.is c.requires.says)

-- and a batch that it doesn't begin is out of range
pub returns-in-Batch-clause-at_desk : goal.returns-in-Batch-clause-at_desk
returns-in-Batch-clause-at_desk g c =
    let says = subst (λ (command : Command). Says c.args.line.now command) c.in-Batch.is c.requires.says in
    batch_at_desk g.W.Outside c.requires.ready c.requires.intact c.requires.rest c.in-Batch.field-0 c.refuse.result
    c.told-in-Batch.ensures c.refuse.ensures
    (λ in_range. c.requires.opens_none c.in-Batch.field-0 (record { short = c.requires.short; says = says; in_range = in_range })) says

pub returns-in-Checkpoint-clause-at_desk : goal.returns-in-Checkpoint-clause-at_desk
returns-in-Checkpoint-clause-at_desk g c =
    c.answer_checkpoint.ensures.at_desk c.args.line.now
    (subst (λ (command : Command). Says c.args.line.now command) c.in-Checkpoint.is c.requires.says)

-- a group is begun, written or given up
pub returns-in-Begin-clause-at_desk : goal.returns-in-Begin-clause-at_desk
returns-in-Begin-clause-at_desk g c =
    said_at_desk g.W.Outside commands.Begin c.answer_begin.result c.requires.ready c.requires.intact c.requires.rest
    c.answer_begin.ensures (subst (λ (command : Command). Says c.args.line.now command) c.in-Begin.is c.requires.says)

pub returns-in-Commit-clause-at_desk : goal.returns-in-Commit-clause-at_desk
returns-in-Commit-clause-at_desk g c =
    c.answer_commit.ensures.at_desk c.args.line.now
    (subst (λ (command : Command). Says c.args.line.now command) c.in-Commit.is c.requires.says)

pub returns-in-Abandon-clause-at_desk : goal.returns-in-Abandon-clause-at_desk
returns-in-Abandon-clause-at_desk g c =
    said_at_desk g.W.Outside commands.Abandon c.answer_abandon.result c.requires.ready c.requires.intact c.requires.rest
    c.answer_abandon.ensures (subst (λ (command : Command). Says c.args.line.now command) c.in-Abandon.is c.requires.says)
