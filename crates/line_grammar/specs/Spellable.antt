-- Which commands have a text.
use Rattle.line_grammar.specs.declared.command.Change.{Change}
use Rattle.line_grammar.specs.declared.command.Command.{Command}
use Rattle.line_grammar.specs.declared.command.Command.TheVariants as commands
use Rattle.line_grammar.specs.Slots.{fits_in}
use Rattle.line_grammar.specs.Rows.{parts}
pub use Rattle.line_grammar.specs.Fitting.{IsNumber, is_letter, is_digit, is_name_byte, IsName, IsPoint}
pub use Rattle.line_grammar.specs.Fitting.{IsNonempty, ArePoints, AreNames, IsKeyed, AreKeyed, IsSecond}

-- some line stands for the command
abbrev pub IsSpellable : Command → Type 0
IsSpellable c = fits_in (parts c).1

-- some line stands for the change
abbrev pub IsSpellableChange : Change → Type 0
IsSpellableChange c = IsSpellable (commands.Change c)
