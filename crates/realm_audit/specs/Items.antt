-- The lines of a certificate: what each of them says, and its one text. Tokens are separated by one space.
use Rattle.std.specs.Prelude.{◌≡◌, ℕ, ◌<◌, ◌≤◌, ◌^◌, List, [], ◌∷◌, ◌++◌, length, codes}
use Rattle.std.specs.List.{AllByRecursion}
use Rattle.std.specs.Fmt.{decimal}
use Rattle.grid_base.specs.Point.{GridPoint, OnGrid, IsBefore}
use Rattle.grid_base.specs.Segment.{GridSegment}
use Rattle.grid_base.specs.declared.kinds.Step.{Step}
use Rattle.grid_base.specs.declared.kinds.Step.TheVariants as steps
use Rattle.realm_audit.specs.declared.item.Item.{Item}
use Rattle.realm_audit.specs.declared.item.Item.TheVariants.{Point, Unpoint, Original, Change, Remove, Segment, End}
use Rattle.realm_audit.specs.declared.item.Item.TheVariants as items
use Rattle.realm_audit.specs.declared.words.Word.{Word}
use Rattle.realm_audit.specs.declared.words.Word.TheVariants as words

-- ---- which lines there are
-- an id goes from 1 to 2^32 - 1
pub record IsId (id : ℕ) : Type 0 where
  pub some : 0 < id
  pub small : id < 2 ^ 32

-- both ends are on the grid
abbrev pub EndsOnGrid : GridSegment → Type 0
EndsOnGrid s = OnGrid s.a × OnGrid s.b

-- the points of a step are on the grid, and each of its segments has its lesser end first
abbrev pub IsStep : Step → Type 0
IsStep (steps.Split p t) = OnGrid p × EndsOnGrid t × IsBefore t.a t.b
IsStep (steps.Meet t u x) = EndsOnGrid t × IsBefore t.a t.b × EndsOnGrid u × IsBefore u.a u.b × OnGrid x
IsStep (steps.Corner t u) = EndsOnGrid t × IsBefore t.a t.b × EndsOnGrid u × IsBefore u.a u.b

-- the item is a line: it has a text
abbrev pub IsLine : Item → Type 0
IsLine (Point p) = OnGrid p
IsLine (Unpoint p) = OnGrid p
IsLine (Original id chain) = IsId id × (2 ≤ length chain) × AllByRecursion OnGrid chain
IsLine Change = Unit {0}
IsLine (Remove id) = IsId id
IsLine (Segment id p q) = IsId id × OnGrid p × OnGrid q
IsLine (items.Step step) = IsStep step
IsLine End = Unit {0}

-- ---- its text
-- the word of a step
abbrev pub word_of_step : Step → Word
word_of_step (steps.Split p t) = words.Split
word_of_step (steps.Meet t u x) = words.Meet
word_of_step (steps.Corner t u) = words.Corner

-- the word with which the line begins
abbrev pub word_of : Item → Word
word_of (Point p) = words.Point
word_of (Unpoint p) = words.Unpoint
word_of (Original id chain) = words.Original
word_of Change = words.Change
word_of (Remove id) = words.Remove
word_of (Segment id p q) = words.Segment
word_of (items.Step step) = word_of_step step
word_of End = words.End

-- how a word is spelled
abbrev pub spelling : Word → List ℕ
spelling words.Point = codes "point"
spelling words.Unpoint = codes "unpoint"
spelling words.Original = codes "original"
spelling words.Change = codes "change"
spelling words.Remove = codes "remove"
spelling words.Segment = codes "segment"
spelling words.Split = codes "split"
spelling words.Meet = codes "meet"
spelling words.Corner = codes "corner"
spelling words.End = codes "end"

-- the coordinates of points, in their order
abbrev pub coordinates : List GridPoint → List ℕ
coordinates [] = []
coordinates (p ∷ points) = p.x ∷ p.y ∷ coordinates points

-- the numbers of a step, point by point
abbrev pub numbers_of_step : Step → List ℕ
numbers_of_step (steps.Split p t) = coordinates (p ∷ t.a ∷ t.b ∷ [])
numbers_of_step (steps.Meet t u x) = coordinates (t.a ∷ t.b ∷ u.a ∷ u.b ∷ x ∷ [])
numbers_of_step (steps.Corner t u) = coordinates (t.a ∷ t.b ∷ u.a ∷ u.b ∷ [])

-- the numbers of the line: its id, where it has one, and then its points
abbrev pub numbers_of : Item → List ℕ
numbers_of (Point p) = coordinates (p ∷ [])
numbers_of (Unpoint p) = coordinates (p ∷ [])
numbers_of (Original id chain) = id ∷ coordinates chain
numbers_of Change = []
numbers_of (Remove id) = id ∷ []
numbers_of (Segment id p q) = id ∷ coordinates (p ∷ q ∷ [])
numbers_of (items.Step step) = numbers_of_step step
numbers_of End = []

-- each number behind a space
abbrev pub led_numbers : List ℕ → List ℕ
led_numbers [] = []
led_numbers (n ∷ numbers) = 32 ∷ decimal n ++ led_numbers numbers

-- the word, and then the numbers
abbrev pub text_of : Item → List ℕ
text_of item = spelling (word_of item) ++ led_numbers (numbers_of item)

-- the text is that of the item
pub record IsTextOf (text : List ℕ) (item : Item) : Type 0 where
  pub line : IsLine item
  pub spelled : text ≡ text_of item
