-- The commands: for each its first word, what stands behind it, and what they say together. A word has the
-- space behind it, but for the five with nothing behind them and the three with lists of names, each of which
-- has a space before it.
use Rattle.std.specs.Prelude.{ℕ, List, [], ◌∷◌, codes}
use Rattle.line_grammar.specs.declared.command.Change.TheVariants as change
use Rattle.line_grammar.specs.declared.command.Query.TheVariants as query
use Rattle.line_grammar.specs.declared.command.Command.{Command}
use Rattle.line_grammar.specs.declared.command.Command.TheVariants as commands
use Rattle.line_grammar.specs.declared.command.Keyword.{Keyword}
use Rattle.line_grammar.specs.declared.command.Keyword.TheVariants as k
use Rattle.line_grammar.specs.Slots.{Slots, Values, Filling, Put, Nothing, OneNumber, OnePlace, TwoPlaces, OneName}
use Rattle.line_grammar.specs.Slots.{NameAndPlaces, NameAndLists, Operation, Question, Measure, Definition, SomeNames}
use Rattle.line_grammar.specs.Slots.{TwoLists, KeyedNames}

-- a word, what stands behind it, and the command that they say
pub data Row : Type 0 where
  Line : (word : List ℕ) (slots : Slots) → (Values slots → Command) → Row

-- the row of each first word
abbrev pub row : Keyword → Row
row k.Point = Line (codes "point ") OnePlace (λ p. commands.Change (change.Point p))
row k.Unpoint = Line (codes "unpoint ") OnePlace (λ p. commands.Change (change.Unpoint p))
row k.Segment = Line (codes "segment ") TwoPlaces (λ e. commands.Change (change.Segment e.0 e.1))
row k.Points = Line (codes "points ") NameAndPlaces (λ n. commands.Change (change.Points n.0 n.1))
row k.Lines = Line (codes "lines ") NameAndLists (λ n. commands.Change (change.Lines n.0 n.1))
row k.Regions = Line (codes "regions ") NameAndLists (λ n. commands.Change (change.Regions n.0 n.1))
row k.Let = Line (codes "let ") Definition (λ d. commands.Change (change.Let d.0 d.1.0 d.1.1.0 d.1.1.1))
row k.Drop = Line (codes "drop ") OneName (λ n. commands.Change (change.Drop n))
row k.Delete = Line (codes "delete ") OneNumber (λ n. commands.Change (change.Delete n))
row k.Realm = Line (codes "realm") Nothing (λ v. commands.Query query.Realm)
row k.Show = Line (codes "show ") OneName (λ n. commands.Query (query.Show n))
row k.Chain = Line (codes "chain ") OneNumber (λ n. commands.Query (query.Chain n))
row k.Eval = Line (codes "eval ") Operation (λ o. commands.Query (query.Eval o.0 o.1.0 o.1.1))
row k.Ask = Line (codes "ask ") Question (λ q. commands.Query (query.Ask q.0 q.1.0 q.1.1))
row k.Num = Line (codes "num ") Measure (λ m. commands.Query (query.Num m.0 m.1.0 m.1.1))
row k.Faces = Line (codes "faces ") OneName (λ n. commands.Query (query.Faces n))
row k.Trace = Line (codes "trace ") OneNumber (λ n. commands.Query (query.Trace n))
row k.Sum = Line (codes "sum") SomeNames (λ ns. commands.Query (query.Sum ns))
row k.Decompose = Line (codes "decompose ") OneName (λ n. commands.Query (query.Decompose n))
row k.Overlay = Line (codes "overlay") TwoLists (λ l. commands.Query (query.Overlay l.0 l.1))
row k.Fusion = Line (codes "fusion") KeyedNames (λ ks. commands.Query (query.Fusion ks))
row k.Batch = Line (codes "batch ") OneNumber (λ n. commands.Batch n)
row k.Checkpoint = Line (codes "checkpoint") Nothing (λ v. commands.Checkpoint)
row k.Begin = Line (codes "begin") Nothing (λ v. commands.Begin)
row k.Commit = Line (codes "commit") Nothing (λ v. commands.Commit)
row k.Abandon = Line (codes "abandon") Nothing (λ v. commands.Abandon)

-- the first word of a row
abbrev pub word_of : Row → List ℕ
word_of (Line word slots said) = word

-- what stands behind it
abbrev pub slots_of : Row → Slots
slots_of (Line word slots said) = slots

-- what they say together
abbrev pub said_by : (r : Row) → Values (slots_of r) → Command
said_by (Line word slots said) = said

-- the first word of a line
abbrev pub keyword : Keyword → List ℕ
keyword first = word_of (row first)

-- every first word
abbrev pub all_keywords : List Keyword
all_keywords =
    k.Point ∷ k.Unpoint ∷ k.Segment ∷ k.Points ∷ k.Lines ∷ k.Regions ∷ k.Let
    ∷ k.Drop ∷ k.Delete ∷ k.Realm ∷ k.Show ∷ k.Chain ∷ k.Eval
    ∷ k.Ask ∷ k.Num ∷ k.Faces ∷ k.Trace ∷ k.Sum ∷ k.Decompose ∷ k.Overlay ∷ k.Fusion
    ∷ k.Batch ∷ k.Checkpoint ∷ k.Begin ∷ k.Commit ∷ k.Abandon ∷ []

-- these values behind this first word
abbrev pub puts : (first : Keyword) → Values (slots_of (row first)) → Keyword × Filling
puts first values = (first, Put (slots_of (row first)) values)

-- the first word of a command, and what it puts behind it
abbrev pub parts : Command → Keyword × Filling
parts (commands.Change (change.Point p)) = puts k.Point p
parts (commands.Change (change.Unpoint p)) = puts k.Unpoint p
parts (commands.Change (change.Segment p q)) = puts k.Segment (p, q)
parts (commands.Change (change.Points n ps)) = puts k.Points (n, ps)
parts (commands.Change (change.Lines n ls)) = puts k.Lines (n, ls)
parts (commands.Change (change.Regions n ls)) = puts k.Regions (n, ls)
parts (commands.Change (change.Let n op a b)) = puts k.Let (n, (op, (a, b)))
parts (commands.Change (change.Drop n)) = puts k.Drop n
parts (commands.Change (change.Delete n)) = puts k.Delete n
parts (commands.Query query.Realm) = puts k.Realm tt
parts (commands.Query (query.Show n)) = puts k.Show n
parts (commands.Query (query.Chain n)) = puts k.Chain n
parts (commands.Query (query.Eval op a b)) = puts k.Eval (op, (a, b))
parts (commands.Query (query.Ask p a b)) = puts k.Ask (p, (a, b))
parts (commands.Query (query.Num m a b)) = puts k.Num (m, (a, b))
parts (commands.Query (query.Faces n)) = puts k.Faces n
parts (commands.Query (query.Trace n)) = puts k.Trace n
parts (commands.Query (query.Sum ns)) = puts k.Sum ns
parts (commands.Query (query.Decompose n)) = puts k.Decompose n
parts (commands.Query (query.Overlay a b)) = puts k.Overlay (a, b)
parts (commands.Query (query.Fusion ks)) = puts k.Fusion ks
parts (commands.Batch n) = puts k.Batch n
parts commands.Checkpoint = puts k.Checkpoint tt
parts commands.Begin = puts k.Begin tt
parts commands.Commit = puts k.Commit tt
parts commands.Abandon = puts k.Abandon tt
