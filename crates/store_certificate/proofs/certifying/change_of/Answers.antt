use Rattle.line_grammar.specs.declared.command.Command.TheVariants as commands
use Rattle.store_certificate.proofs.certifying.change_of.Goals as goal

-- the line is the text of a command, so it isn't refused
pub unreachable-requires-in-Err-Bad : goal.unreachable-requires-in-Err-Bad
unreachable-requires-in-Err-Bad c =
    let refusal = rw c.in-Err-Bad.field-0-is at c.in-Err-Bad.ensures.bad in
    let some = c.requires.of_some in
    refusal.0 (commands.Change some.0) (some.1.spellable, some.1.is_text)
