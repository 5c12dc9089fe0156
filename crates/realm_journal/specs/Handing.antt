-- Records that bytes still hold, which are handed out one after another.
use Rattle.std.specs.Prelude.{ℕ, zero, suc, List, [], ◌∷◌, length, Bool, true, false, ◌&&◌, ◌==◌}
use Rattle.std.specs.Prelude.{if◌then◌else◌, Option, Some, None, Result, Ok, Err}
use Rattle.line_grammar.specs.declared.command.Command.{Command}
use Rattle.line_grammar.specs.Forms.{command_at}
use Rattle.record_codec.specs.declared.entry.Entry.{Entry}
use Rattle.record_codec.specs.declared.record.Record.{Record}
use Rattle.record_codec.specs.Fitting.{asks_for_change}
use Rattle.record_codec.specs.Reading.{Reader, tested, record_at}
use Rattle.realm_journal.specs.Gates.{open_gate}

-- whether a change is what was read of a line
abbrev pub is_asked : Result Command ℕ → Bool
is_asked (Ok command) = asks_for_change command
is_asked (Err left) = false

-- whether the line of each entry is the text of a change
abbrev pub are_changes : List Entry → Bool
are_changes [] = true
are_changes (e ∷ entries) = is_asked (command_at e.line) && are_changes entries

-- the record whose text the bytes begin with, and the bytes behind it
abbrev pub next_at : Reader Record
next_at = tested (λ r. are_changes r.entries) record_at

-- what was read, and then what the bytes behind it hold
abbrev pub and_then : Option (Record × List ℕ) → (List ℕ → List Record) → List Record
and_then None more = []
and_then (Some read) more = read.0 ∷ more read.1

-- the records that the bytes hold from a gate at their front on, so many at most
abbrev pub held_within : ℕ → List ℕ → List Record
held_within zero bytes = []
held_within (suc n) [] = []
held_within (suc n) (gate ∷ bytes) = if gate == open_gate then and_then (next_at bytes) (held_within n) else []

-- all of them: a record takes a byte at least
unfoldable pub held : List ℕ → List Record
held bytes = held_within (length bytes) bytes
