-- Both commands are what is read of their common text.
use Rattle.line_grammar.proofs.Commands.{one_command}
use Rattle.line_grammar.proofs.laws.one_command_a_text.Goals as goal

-- what is read of a text is read of no other command's
pub returns : goal.returns
returns c = one_command
