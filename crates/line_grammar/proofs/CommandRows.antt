-- This file shows that the rows are all there is, and that a command is its row and its parts.
use Rattle.std.proofs.Common.{◌≡◌, refl}
use Rattle.line_grammar.specs.declared.command.Change.TheVariants as change
use Rattle.line_grammar.specs.declared.command.Query.TheVariants as query
use Rattle.line_grammar.specs.declared.command.Command.{Command}
use Rattle.line_grammar.specs.declared.command.Command.TheVariants as commands
use Rattle.line_grammar.specs.declared.command.Keyword.{Keyword}
use Rattle.line_grammar.specs.declared.command.Keyword.TheVariants as k
use Rattle.line_grammar.specs.Slots.{Values}
use Rattle.line_grammar.specs.Rows.{row, slots_of, said_by, puts, parts, all_keywords}
use Rattle.line_grammar.proofs.Choices.{Member, stands_at}

-- each first word stands in the list of all
pub every_keyword : (k : Keyword) → Member k all_keywords
every_keyword k.Point = stands_at 0 all_keywords refl
every_keyword k.Unpoint = stands_at 1 all_keywords refl
every_keyword k.Segment = stands_at 2 all_keywords refl
every_keyword k.Points = stands_at 3 all_keywords refl
every_keyword k.Lines = stands_at 4 all_keywords refl
every_keyword k.Regions = stands_at 5 all_keywords refl
every_keyword k.Let = stands_at 6 all_keywords refl
every_keyword k.Drop = stands_at 7 all_keywords refl
every_keyword k.Delete = stands_at 8 all_keywords refl
every_keyword k.Realm = stands_at 9 all_keywords refl
every_keyword k.Show = stands_at 10 all_keywords refl
every_keyword k.Chain = stands_at 11 all_keywords refl
every_keyword k.Eval = stands_at 12 all_keywords refl
every_keyword k.Ask = stands_at 13 all_keywords refl
every_keyword k.Num = stands_at 14 all_keywords refl
every_keyword k.Faces = stands_at 15 all_keywords refl
every_keyword k.Trace = stands_at 16 all_keywords refl
every_keyword k.Sum = stands_at 17 all_keywords refl
every_keyword k.Decompose = stands_at 18 all_keywords refl
every_keyword k.Overlay = stands_at 19 all_keywords refl
every_keyword k.Fusion = stands_at 20 all_keywords refl
every_keyword k.Batch = stands_at 21 all_keywords refl
every_keyword k.Checkpoint = stands_at 22 all_keywords refl
every_keyword k.Begin = stands_at 23 all_keywords refl
every_keyword k.Commit = stands_at 24 all_keywords refl
every_keyword k.Abandon = stands_at 25 all_keywords refl

-- what a first word says with these values puts these values behind this word
pub parts_said : (first : Keyword) (v : Values (slots_of (row first))) → parts (said_by (row first) v) ≡ puts first v
parts_said k.Point v = refl
parts_said k.Unpoint v = refl
parts_said k.Segment v = refl
parts_said k.Points v = refl
parts_said k.Lines v = refl
parts_said k.Regions v = refl
parts_said k.Let v = refl
parts_said k.Drop v = refl
parts_said k.Delete v = refl
parts_said k.Realm v = refl
parts_said k.Show v = refl
parts_said k.Chain v = refl
parts_said k.Eval v = refl
parts_said k.Ask v = refl
parts_said k.Num v = refl
parts_said k.Faces v = refl
parts_said k.Trace v = refl
parts_said k.Sum v = refl
parts_said k.Decompose v = refl
parts_said k.Overlay v = refl
parts_said k.Fusion v = refl
parts_said k.Batch v = refl
parts_said k.Checkpoint v = refl
parts_said k.Begin v = refl
parts_said k.Commit v = refl
parts_said k.Abandon v = refl

-- a command is what its first word says with what it puts behind it
pub said_parts : (c : Command)
    → (v : Values (slots_of (row (parts c).0))) × (parts c ≡ puts (parts c).0 v) × (c ≡ said_by (row (parts c).0) v)
said_parts (commands.Change (change.Point p)) = (p, refl, refl)
said_parts (commands.Change (change.Unpoint p)) = (p, refl, refl)
said_parts (commands.Change (change.Segment p q)) = ((p, q), refl, refl)
said_parts (commands.Change (change.Points n ps)) = ((n, ps), refl, refl)
said_parts (commands.Change (change.Lines n ls)) = ((n, ls), refl, refl)
said_parts (commands.Change (change.Regions n ls)) = ((n, ls), refl, refl)
said_parts (commands.Change (change.Let n op a b)) = ((n, (op, (a, b))), refl, refl)
said_parts (commands.Change (change.Drop n)) = (n, refl, refl)
said_parts (commands.Change (change.Delete n)) = (n, refl, refl)
said_parts (commands.Query query.Realm) = (tt, refl, refl)
said_parts (commands.Query (query.Show n)) = (n, refl, refl)
said_parts (commands.Query (query.Chain n)) = (n, refl, refl)
said_parts (commands.Query (query.Eval op a b)) = ((op, (a, b)), refl, refl)
said_parts (commands.Query (query.Ask p a b)) = ((p, (a, b)), refl, refl)
said_parts (commands.Query (query.Num m a b)) = ((m, (a, b)), refl, refl)
said_parts (commands.Query (query.Faces n)) = (n, refl, refl)
said_parts (commands.Query (query.Trace n)) = (n, refl, refl)
said_parts (commands.Query (query.Sum ns)) = (ns, refl, refl)
said_parts (commands.Query (query.Decompose n)) = (n, refl, refl)
said_parts (commands.Query (query.Overlay a b)) = ((a, b), refl, refl)
said_parts (commands.Query (query.Fusion ks)) = (ks, refl, refl)
said_parts (commands.Batch n) = (n, refl, refl)
said_parts commands.Checkpoint = (tt, refl, refl)
said_parts commands.Begin = (tt, refl, refl)
said_parts commands.Commit = (tt, refl, refl)
said_parts commands.Abandon = (tt, refl, refl)
