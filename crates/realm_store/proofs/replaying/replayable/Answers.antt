use Rattle.line_grammar.specs.declared.command.Command.TheVariants as commands
use Rattle.realm_store.proofs.replaying.replayable.Goals as goal

-- no command at all has this text
pub returns-in-Err-Bad : goal.returns-in-Err-Bad
returns-in-Err-Bad c =
    let refusal = rw c.in-Err-Bad.field-0-is at c.in-Err-Bad.ensures.bad in
    λ change of_line. refusal.0 (commands.Change change) (of_line.spellable, of_line.is_text)
