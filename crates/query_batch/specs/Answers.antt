-- What each line of a batch is answered about a state.
use Rattle.std.specs.Prelude.{◌≡◌, ◌⊎◌, ℕ, List, Option, Some, None}
use Rattle.line_grammar.specs.Lines.{Says, IsRefusal}
use Rattle.line_grammar.specs.declared.fault.LineError.TheVariants.{Bad}
use Rattle.line_grammar.specs.declared.command.Command.{Command}
use Rattle.line_grammar.specs.declared.command.Command.TheVariants.{Query}
use Rattle.realm_insert.specs.State.{State}
use Rattle.rose_query.specs.Answers.{AnswersQuery}
use Rattle.query_batch.specs.Replies.{too_long_reply, no_line_reply, batch_change_reply}

-- a query is answered as it is alone, and any other command is refused
abbrev pub TellsCommand : Command → State → List ℕ → Type 0
TellsCommand (Query q) state reply = AnswersQuery q state reply
TellsCommand _ state reply = reply ≡ batch_change_reply

-- a line that is no command's text is told where it goes wrong
abbrev pub TellsText : State → List ℕ → List ℕ → Type 0
TellsText state line reply =
    ((c : Command) × Says line c × TellsCommand c state reply)
    ⊎ ((at : ℕ) × IsRefusal line (Bad at) × (reply ≡ no_line_reply at))

-- a line that is too long, and so is none here, is told so
abbrev pub TellsLine : State → Option (List ℕ) → List ℕ → Type 0
TellsLine state None reply = reply ≡ too_long_reply
TellsLine state (Some line) reply = TellsText state line reply
