-- This file shows that the text of an item is its word and its numbers, and of no other item.
use Rattle.std.proofs.Common.{Option, Some, None, MatchOption}
use Rattle.std.proofs.Common.{◌≡◌, ℕ, ◌<◌, List, [], ◌∷◌, ◌++◌, refl, sym, ap, ap₂, ◌∙◌, arith}
use Rattle.std.specs.List.{AllByRecursion}
use Rattle.std.proofs.lemmas.List.{append-nil}
use Rattle.grid_base.specs.Grid.{grid_side}
use Rattle.grid_base.specs.Point.{GridPoint, OnGrid}
use Rattle.grid_base.specs.declared.kinds.Step.{Step}
use Rattle.grid_base.specs.declared.kinds.Step.TheVariants as steps
use Rattle.realm_audit.specs.Tokens.{IsNumber, AreNumbers, IsToken, IsCut}
use Rattle.realm_audit.specs.Items.{IsId, IsStep, IsLine, IsTextOf, word_of, spelling, coordinates, numbers_of, numbers_of_step, led_numbers}
use Rattle.realm_audit.specs.Readings.{IsItemFrom, ReadsAs}
use Rattle.realm_audit.specs.declared.item.Item.{Item}
use Rattle.realm_audit.specs.declared.item.Item.TheVariants.{Point, Unpoint, Original, Change, Remove, Segment, End}
use Rattle.realm_audit.specs.declared.item.Item.TheVariants as items
use Rattle.realm_audit.specs.declared.words.Word.{Word}
use Rattle.realm_audit.specs.declared.words.Word.TheVariants as words
use Rattle.realm_audit.proofs.TokenTexts.{GoesOn, token_by_test, word_split, led_spaced, led_split}

-- ---- parts of a text
-- no word has a space
pub spelling_token : (word : Word) → IsToken (spelling word)
spelling_token words.Point = token_by_test (spelling words.Point) refl
spelling_token words.Unpoint = token_by_test (spelling words.Unpoint) refl
spelling_token words.Original = token_by_test (spelling words.Original) refl
spelling_token words.Change = token_by_test (spelling words.Change) refl
spelling_token words.Remove = token_by_test (spelling words.Remove) refl
spelling_token words.Segment = token_by_test (spelling words.Segment) refl
spelling_token words.Split = token_by_test (spelling words.Split) refl
spelling_token words.Meet = token_by_test (spelling words.Meet) refl
spelling_token words.Corner = token_by_test (spelling words.Corner) refl
spelling_token words.End = token_by_test (spelling words.End) refl

-- coordinates and ids are numbers
coordinate : (n : ℕ) → n < grid_side → IsNumber n
coordinate n below = omega (arith, below)

id_number : (n : ℕ) → IsId n → IsNumber n
id_number n id = let small = id.small in omega (arith, small)

point_numbers : (p : GridPoint) (ns : List ℕ) → OnGrid p → AreNumbers ns → AreNumbers (p.x ∷ p.y ∷ ns)
point_numbers p ns on are = (coordinate p.x on.column, (coordinate p.y on.row, are))

two_numbers : (p q : GridPoint) (ns : List ℕ) → OnGrid p × OnGrid q → AreNumbers ns
    → AreNumbers (p.x ∷ p.y ∷ q.x ∷ q.y ∷ ns)
two_numbers p q ns on are = point_numbers p (q.x ∷ q.y ∷ ns) on.0 (point_numbers q ns on.1 are)

coordinate_numbers : (points : List GridPoint) → AllByRecursion OnGrid points → AreNumbers (coordinates points)
coordinate_numbers [] all = tt
coordinate_numbers (p ∷ points) all = point_numbers p (coordinates points) all.0 (coordinate_numbers points all.1)

step_numbers : (step : Step) → IsStep step → AreNumbers (numbers_of_step step)
step_numbers (steps.Split p t) is =
    point_numbers p (coordinates (t.a ∷ t.b ∷ [])) is.0 (two_numbers t.a t.b [] is.1 tt)
step_numbers (steps.Meet t u x) is =
    two_numbers t.a t.b (coordinates (u.a ∷ u.b ∷ x ∷ [])) is.0
    (two_numbers u.a u.b (coordinates (x ∷ [])) is.2 (point_numbers x [] is.4 tt))
step_numbers (steps.Corner t u) is =
    two_numbers t.a t.b (coordinates (u.a ∷ u.b ∷ [])) is.0 (two_numbers u.a u.b [] is.2 tt)

pub line_numbers : (item : Item) → IsLine item → AreNumbers (numbers_of item)
line_numbers (Point p) line = point_numbers p [] line tt
line_numbers (Unpoint p) line = point_numbers p [] line tt
line_numbers (Original id chain) line = (id_number id line.0, coordinate_numbers chain line.2)
line_numbers Change line = tt
line_numbers (Remove id) line = (id_number id line, tt)
line_numbers (Segment id p q) line = (id_number id line.0, two_numbers p q [] (line.1, line.2) tt)
line_numbers (items.Step step) line = step_numbers step line
line_numbers End line = tt

-- ---- reading
-- the item with the word and the numbers of the text is that of the text
pub text_is : (text token rest list : List ℕ) (word : Word) (item : Item) → IsCut text token rest → token ≡ spelling word
    → rest ≡ led_numbers list → IsItemFrom word list item → IsTextOf text item
text_is text token rest list word item cut spelled led from = record {
  line = from.line;
  spelled = cut.parts ∙ ap₂ (λ (l m : List ℕ). l ++ m) spelled led
      ∙ ap₂ (λ (w : Word) (ns : List ℕ). spelling w ++ led_numbers ns) (sym from.word_is) (sym from.numbers_are);
}

-- how the text of an item is cut
item_cut : (text token rest : List ℕ) (item : Item) → IsCut text token rest → IsTextOf text item
    → (token ≡ spelling (word_of item)) × (rest ≡ led_numbers (numbers_of item))
item_cut text token rest item cut is =
    word_split token (spelling (word_of item)) rest (led_numbers (numbers_of item)) cut.no_space
    (spelling_token (word_of item)) cut.spaced (led_spaced (numbers_of item)) (sym cut.parts ∙ is.spelled)

pub no_word : (text token rest : List ℕ) → IsCut text token rest → ((word : Word) → token ≡ spelling word → ⊥)
    → (item : Item) → IsTextOf text item → ⊥
no_word text token rest cut none item is = none (word_of item) (item_cut text token rest item cut is).0

pub no_numbers : (text token rest : List ℕ) → IsCut text token rest
    → ((numbers : List ℕ) → AreNumbers numbers → rest ≡ led_numbers numbers → ⊥) → (item : Item) → IsTextOf text item → ⊥
no_numbers text token rest cut none item is =
    none (numbers_of item) (line_numbers item is.line) (item_cut text token rest item cut is).1

-- two lists with one text are one
pub one_list : (ns ms : List ℕ) → AreNumbers ns → AreNumbers ms → led_numbers ns ≡ led_numbers ms → ms ≡ ns
one_list ns ms are_ns are_ms same = ends (led_split ns ms [] are_ns are_ms tt (append-nil (led_numbers ns) ∙ same))
  where
    no_more : (more : List ℕ) → [] ≡ led_numbers more → more ≡ []
    no_more [] is = refl
    no_more (n ∷ more) is = absurd (cc)

    ends : GoesOn ns ms [] → ms ≡ ns
    ends goes = goes.whole ∙ ap (λ (l : List ℕ). ns ++ l) (no_more goes.more goes.rest_is) ∙ append-nil ns

pub no_item : (text token rest list : List ℕ) (word : Word) → IsCut text token rest
    → ((w : Word) → token ≡ spelling w → w ≡ word) → AreNumbers list → rest ≡ led_numbers list
    → ((item : Item) → IsItemFrom word list item → ⊥) → (item : Item) → IsTextOf text item → ⊥
no_item text token rest list word cut one are led none item is =
    let parts = item_cut text token rest item cut is in
    none item (record {
      line = is.line;
      word_is = one (word_of item) parts.0;
      numbers_are = one_list list (numbers_of item) are (line_numbers item is.line) (sym led ∙ parts.1);
    })

-- what comes of the word and the numbers is what the text is
pub read_is : (text token rest list : List ℕ) (word : Word) (found : Option Item) → IsCut text token rest
    → token ≡ spelling word → ((w : Word) → token ≡ spelling w → w ≡ word) → AreNumbers list → rest ≡ led_numbers list
    → ReadsAs word list found → MatchOption found ((item : Item) → IsTextOf text item → ⊥) (IsTextOf text)
read_is text token rest list word None cut spelled one are led none = no_item text token rest list word cut one are led none
read_is text token rest list word (Some item) cut spelled one are led from =
    text_is text token rest list word item cut spelled led from
