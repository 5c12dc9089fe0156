-- This file shows that a text is that of one item.
use Rattle.std.proofs.Common.{◌≡◌, ℕ, ◌+◌, ◌*◌, ◌==◌, cond, List, [], ◌∷◌, get_or, drop, Option, Some, None, refl, sym, ap, ap₂, subst, ◌∙◌}
use Rattle.grid_base.specs.Point.{GridPoint, point_at}
use Rattle.grid_base.specs.Segment.{GridSegment}
use Rattle.grid_base.specs.declared.kinds.Step.TheVariants as steps
use Rattle.realm_audit.specs.Items.{IsTextOf, word_of, spelling, coordinates, numbers_of, led_numbers}
use Rattle.realm_audit.specs.Audits.{Audit, LineHolds}
use Rattle.realm_audit.specs.Outcomes.{LeadsBy, LeadsByText}
use Rattle.realm_audit.specs.declared.item.Item.{Item}
use Rattle.realm_audit.specs.declared.item.Item.TheVariants.{Point, Unpoint, Original, Change, Remove, Segment, End}
use Rattle.realm_audit.specs.declared.item.Item.TheVariants as items
use Rattle.realm_audit.specs.declared.words.Word.{Word}
use Rattle.realm_audit.specs.declared.words.Word.TheVariants as words
use Rattle.realm_audit.proofs.TokenTexts.{word_split, led_spaced}
use Rattle.realm_audit.proofs.ReadTexts.{spelling_token, line_numbers, one_list}

-- ---- words
-- the first two letters tell the word
abbrev letters : List ℕ → ℕ
letters text = get_or text 0 0 * 256 + get_or text 1 0

abbrev word_by : ℕ → Word
word_by n =
    cond (n == letters (spelling words.Point)) words.Point
    (cond (n == letters (spelling words.Unpoint)) words.Unpoint
    (cond (n == letters (spelling words.Original)) words.Original
    (cond (n == letters (spelling words.Change)) words.Change
    (cond (n == letters (spelling words.Remove)) words.Remove
    (cond (n == letters (spelling words.Segment)) words.Segment
    (cond (n == letters (spelling words.Split)) words.Split
    (cond (n == letters (spelling words.Meet)) words.Meet
    (cond (n == letters (spelling words.Corner)) words.Corner words.End))))))))

word_by-letters : (w : Word) → word_by (letters (spelling w)) ≡ w
word_by-letters words.Point = refl
word_by-letters words.Unpoint = refl
word_by-letters words.Original = refl
word_by-letters words.Change = refl
word_by-letters words.Remove = refl
word_by-letters words.Segment = refl
word_by-letters words.Split = refl
word_by-letters words.Meet = refl
word_by-letters words.Corner = refl
word_by-letters words.End = refl

one_word : (v w : Word) → spelling v ≡ spelling w → v ≡ w
one_word v w same =
    sym (word_by-letters v) ∙ ap (λ (text : List ℕ). word_by (letters text)) same ∙ word_by-letters w

-- ---- items
-- the points with these coordinates
abbrev points_of : List ℕ → List GridPoint
points_of [] = []
points_of (x ∷ []) = []
points_of (x ∷ y ∷ numbers) = point_at x y ∷ points_of numbers

points_of-coordinates : (points : List GridPoint) → points_of (coordinates points) ≡ points
points_of-coordinates [] = refl
points_of-coordinates (p ∷ points) = ap (λ (l : List GridPoint). p ∷ l) (points_of-coordinates points)

-- the point, and the segment, whose coordinates begin at place i
abbrev point_from : List ℕ → ℕ → GridPoint
point_from numbers i = point_at (get_or numbers i 0) (get_or numbers (i + 1) 0)

abbrev segment_from : List ℕ → ℕ → GridSegment
segment_from numbers i = record { a = point_from numbers i; b = point_from numbers (i + 2) }

-- the word and the numbers tell the item
abbrev item_by : Word → List ℕ → Item
item_by words.Point numbers = Point (point_from numbers 0)
item_by words.Unpoint numbers = Unpoint (point_from numbers 0)
item_by words.Original numbers = Original (get_or numbers 0 0) (points_of (drop 1 numbers))
item_by words.Change numbers = Change
item_by words.Remove numbers = Remove (get_or numbers 0 0)
item_by words.Segment numbers = Segment (get_or numbers 0 0) (point_from numbers 1) (point_from numbers 3)
item_by words.Split numbers = items.Step (steps.Split (point_from numbers 0) (segment_from numbers 2))
item_by words.Meet numbers =
    items.Step (steps.Meet (segment_from numbers 0) (segment_from numbers 4) (point_from numbers 8))
item_by words.Corner numbers = items.Step (steps.Corner (segment_from numbers 0) (segment_from numbers 4))
item_by words.End numbers = End

item_by-numbers : (item : Item) → item_by (word_of item) (numbers_of item) ≡ item
item_by-numbers (Point p) = refl
item_by-numbers (Unpoint p) = refl
item_by-numbers (Original id chain) = ap (λ (l : List GridPoint). Original id l) (points_of-coordinates chain)
item_by-numbers Change = refl
item_by-numbers (Remove id) = refl
item_by-numbers (Segment id p q) = refl
item_by-numbers (items.Step (steps.Split p t)) = refl
item_by-numbers (items.Step (steps.Meet t u x)) = refl
item_by-numbers (items.Step (steps.Corner t u)) = refl
item_by-numbers End = refl

pub one_item : (text : List ℕ) (a b : Item) → IsTextOf text a → IsTextOf text b → a ≡ b
one_item text a b is_a is_b =
    let parts = word_split (spelling (word_of a)) (spelling (word_of b)) (led_numbers (numbers_of a)) (led_numbers (numbers_of b))
    (spelling_token (word_of a)) (spelling_token (word_of b)) (led_spaced (numbers_of a)) (led_spaced (numbers_of b))
    (sym is_a.spelled ∙ is_b.spelled) in
    let numbers = one_list (numbers_of a) (numbers_of b) (line_numbers a is_a.line) (line_numbers b is_b.line) parts.1 in
    sym (item_by-numbers a) ∙ ap₂ item_by (one_word (word_of a) (word_of b) parts.0) (sym numbers) ∙ item_by-numbers b

-- ---- where a text leads
-- it leads where its item does
pub leads_by_text : (old : Audit) (text : List ℕ) (item : Item) (found : Option Audit) → IsTextOf text item
    → LeadsBy old item found → LeadsByText old text found
leads_by_text old text item None is none =
    λ new (other, is_other, holds). none new (subst (λ (i : Item). LineHolds old i new) (one_item text other item is_other is) holds)
leads_by_text old text item (Some new) is holds = (item, is, holds)
