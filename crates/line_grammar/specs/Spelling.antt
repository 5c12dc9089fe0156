-- The one text of each command. One space stands between two tokens, and none before the first or
-- behind the last.
use Rattle.std.specs.Prelude.{ℕ, List, ◌++◌}
use Rattle.line_grammar.specs.declared.command.Change.{Change}
use Rattle.line_grammar.specs.declared.command.Command.{Command}
use Rattle.line_grammar.specs.declared.command.Command.TheVariants as commands
use Rattle.line_grammar.specs.Slots.{text_in}
use Rattle.line_grammar.specs.Rows.{row, word_of, parts}
pub use Rattle.line_grammar.specs.Pieces.{space, point, led_point, points, lists, next_list, led_name, names}
pub use Rattle.line_grammar.specs.Pieces.{led_number, led_keyed, keyed_names, second}

-- the text of a command
abbrev pub command_text : Command → List ℕ
command_text c = let p = parts c in word_of (row p.0) ++ text_in p.1

-- the text of a change
abbrev pub change_text : Change → List ℕ
change_text c = command_text (commands.Change c)
