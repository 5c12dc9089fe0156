-- Queries and commands that are shown to be answered in every valid state, memory apart.
use Rattle.std.specs.Prelude.{IfSome}
use Rattle.grid_base.specs.Drawing.{IsPoint}
use Rattle.grid_base.specs.Point.{GridPoint, OnGrid}
use Rattle.line_grammar.specs.declared.command.Command.{Command}
use Rattle.line_grammar.specs.declared.command.Command.TheVariants as commands
use Rattle.line_grammar.specs.declared.command.Query.{Query}
use Rattle.line_grammar.specs.declared.command.Query.TheVariants.{Eval, Ask, Faces, Decompose}
use Rattle.line_grammar.specs.declared.command.Query.TheVariants.{Num as Measure}
use Rattle.rose_values.specs.declared.operators.Num.TheVariants.{NoOfComponents}
use Rattle.rose_values.specs.declared.operators.Op.TheVariants.{Interior}
use Rattle.rose_values.specs.declared.operators.Pred.TheVariants.{Encloses}
use Rattle.realm_insert.specs.State.{State}
use Rattle.realm_store.specs.Keeping.{SpendableKept, present}
use Rattle.realm_store.specs.Leading.{LeadOnBy}
use Rattle.realm_store.specs.Sound.{IsSound}
use Rattle.rose_shell.specs.Batches.{IsInRange}
use Rattle.one_reply.specs.Payloads.{FitsInPages}

-- each point that is drawn is on the grid, as those of an engine are by their type
abbrev pub IsDrawnOnGrid : State → Type 0
IsDrawnOnGrid s = (p : GridPoint) → IsPoint s.drawing p → OnGrid p

-- each query; for what rests on classes of the plane the state has to be drawn on the grid
abbrev pub HasSomeReply : Query → State → Type 0
HasSomeReply (Eval Interior first second) s = IsDrawnOnGrid s
HasSomeReply (Ask Encloses first second) s = IsDrawnOnGrid s
HasSomeReply (Measure NoOfComponents first second) s = IsDrawnOnGrid s
HasSomeReply (Faces name) s = IsDrawnOnGrid s
HasSomeReply (Decompose name) s = IsDrawnOnGrid s
HasSomeReply q s = Unit {0}

-- the group that is open, if one is, has led on from what is kept to a sound state
abbrev pub HasLed : SpendableKept → Type 0
HasLed s = IfSome s.group (λ group. LeadOnBy s.kept.state group.entries group.state × IsSound group.state)

-- Such a query, a batch whose number is out of range, and what begins a group or ends it. So it is with a checkpoint of a state
-- that fits into pages.
abbrev pub HasSomeAnswer : SpendableKept → Command → Type 0
HasSomeAnswer s (commands.Query q) = HasSomeReply q (present s)
HasSomeAnswer s (commands.Batch size) = IsInRange size → ⊥
HasSomeAnswer s commands.Checkpoint = FitsInPages s.kept.state
HasSomeAnswer s commands.Begin = Unit {0}
HasSomeAnswer s commands.Commit = HasLed s
HasSomeAnswer s commands.Abandon = Unit {0}
HasSomeAnswer s (commands.Change c) = ⊥

-- such a query, or any other command, which a batch refuses
abbrev pub HasSomeReplyInBatch : Command → State → Type 0
HasSomeReplyInBatch (commands.Query q) s = HasSomeReply q s
HasSomeReplyInBatch _ s = Unit {0}
