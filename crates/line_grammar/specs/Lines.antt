-- Which texts are read, and where the others go wrong.
use Rattle.std.specs.Prelude.{◌≡◌, ℕ, ◌≤◌, List, ◌++◌, length, take}
use Rattle.line_grammar.specs.declared.command.Command.{Command}
use Rattle.line_grammar.specs.declared.fault.LineError.{LineError}
use Rattle.line_grammar.specs.declared.fault.LineError.TheVariants.{Bad, NoMemory}
use Rattle.line_grammar.specs.Spelling.{command_text}
use Rattle.line_grammar.specs.Spellable.{IsSpellable}

-- the line is the text of the command
abbrev pub Says : List ℕ → Command → Type 0
Says line c = IsSpellable c × (line ≡ command_text c)

-- the text of some command begins with these bytes
abbrev pub Begins : List ℕ → Type 0
Begins front = (c : Command) × (rest : List ℕ) × IsSpellable c × (command_text c ≡ front ++ rest)

-- the first `at` bytes of the line are the most with which some command's text begins
pub record IsFaultAt (line : List ℕ) (at : ℕ) : Type 0 where
  pub within : at ≤ length line
  pub begins : Begins (take at line)
  pub no_more : (k : ℕ) → k ≤ length line → Begins (take k line) → k ≤ at

-- no command has this text, and it goes wrong at `at`
abbrev pub IsRefusal : List ℕ → LineError → Type 0
IsRefusal line (Bad at) = ((c : Command) → Says line c → ⊥) × IsFaultAt line at
IsRefusal line NoMemory = Unit {0}
