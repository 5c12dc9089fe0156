-- Lines that are shown to have an answer, memory apart.
use Rattle.std.specs.Prelude.{◌+◌, ◌≤◌, ◌^◌, length}
use Rattle.line_grammar.specs.declared.command.Change.{Change}
use Rattle.line_grammar.specs.declared.command.Command.{Command}
use Rattle.line_grammar.specs.declared.command.Command.TheVariants as commands
use Rattle.realm_insert.specs.Figures.{Figure, Draws}
use Rattle.realm_insert.specs.State.{State}
use Rattle.realm_store.specs.Keeping.{SpendableKept, present}
use Rattle.one_reply.specs.Answerable.{IsDrawnOnGrid, HasSomeAnswer}

-- Once the change has drawn there are at most 2^26 originals. So each trace has fewer than 2^57 steps, as a record may have: an
-- original has fewer links than twice the columns of the grid.
abbrev pub HasFewOriginals : Change → State → Type 0
HasFewOriginals c s = (figure : Figure) → Draws c s figure → length s.drawing.originals + length figure.segments ≤ 2 ^ 26

-- a change of a state that is drawn on the grid, where there are few originals then, or another command that has an answer
abbrev pub IsAnswered : SpendableKept → Command → Type 0
IsAnswered s (commands.Change c) = IsDrawnOnGrid (present s) × HasFewOriginals c (present s)
IsAnswered s c = HasSomeAnswer s c
