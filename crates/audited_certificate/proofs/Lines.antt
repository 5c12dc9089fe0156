-- This file shows that the bytes of a certificate, cut at line feeds, are its lines.
use Rattle.std.proofs.Common.{◌≡◌, ◌≢◌, ℕ, true, List, [], ◌∷◌, ◌++◌, map, All, refl, sym, ap, ◌∙◌, arith, append_assoc}
use Rattle.std.specs.List.{AllByRecursion}
use Rattle.std.specs.Fmt.{decimal}
use Rattle.std.proofs.lemmas.Bool.Decides.{nat_tests}
use Rattle.std.proofs.lemmas.List.{append-nil}
use Rattle.std.proofs.lemmas.List.Elements.{All-head, All-tail}
use Rattle.std.specs.Prelude.{nat_lt}
use Rattle.grid_base.proofs.Booleans.{both_true}
use Rattle.realm_audit.specs.Items.{IsLine, text_of, word_of, spelling, numbers_of, led_numbers}
use Rattle.realm_audit.specs.Tokens.{is_digit, AreNumbers}
use Rattle.realm_audit.specs.declared.item.Item.{Item}
use Rattle.realm_audit.specs.declared.words.Word.{Word}
use Rattle.realm_audit.specs.declared.words.Word.TheVariants as words
use Rattle.realm_audit.proofs.NumberTexts.{AreDigits, decimal_digits}
use Rattle.realm_audit.proofs.TokenTexts.{are_behind_space}
use Rattle.realm_audit.proofs.ReadTexts.{line_numbers}
use Rattle.rose_shell.specs.Lines.{lines_from, part_from, all_lines}
use Rattle.rose_shell.specs.Certifying.{lines_of_items}

-- no byte of these is a line feed
abbrev pub HasNoFeed : List ℕ → Type 0
HasNoFeed bytes = AllByRecursion (λ b. b ≢ 10) bytes

no_feed-append : (xs ys : List ℕ) → HasNoFeed xs → HasNoFeed ys → HasNoFeed (xs ++ ys)
no_feed-append [] ys first then = then
no_feed-append (b ∷ xs) ys first then = (first.0, no_feed-append xs ys first.1 then)

-- ---- the text of an item
digit_no_feed : (d : ℕ) → is_digit d ≡ true → d ≢ 10
digit_no_feed d digit same = grind (arith, nat_tests)

digits_no_feed : (ds : List ℕ) → AreDigits ds → HasNoFeed ds
digits_no_feed [] digits = tt
digits_no_feed (d ∷ ds) digits = (digit_no_feed d digits.0, digits_no_feed ds digits.1)

space_no_feed : (b : ℕ) → b ≡ 32 → b ≢ 10
space_no_feed b is same = grind (arith, nat_tests)

led_no_feed : (ns : List ℕ) → AreNumbers ns → HasNoFeed (led_numbers ns)
led_no_feed [] are = tt
led_no_feed (n ∷ ns) are = (
  space_no_feed 32 refl,
  no_feed-append (decimal n) (led_numbers ns) (digits_no_feed (decimal n) (decimal_digits n are.0)) (led_no_feed ns are.1),
)

behind_no_feed : (b : ℕ) → nat_lt 32 b ≡ true → b ≢ 10
behind_no_feed b behind same = grind (arith, nat_tests)

no_feed_by_test : (bytes : List ℕ) → are_behind_space bytes ≡ true → HasNoFeed bytes
no_feed_by_test [] behind = tt
no_feed_by_test (b ∷ bytes) behind =
    let parts = both_true (nat_lt 32 b) (are_behind_space bytes) behind in
    (behind_no_feed b parts.0, no_feed_by_test bytes parts.1)

spelling_no_feed : (word : Word) → HasNoFeed (spelling word)
spelling_no_feed words.Point = no_feed_by_test (spelling words.Point) refl
spelling_no_feed words.Unpoint = no_feed_by_test (spelling words.Unpoint) refl
spelling_no_feed words.Original = no_feed_by_test (spelling words.Original) refl
spelling_no_feed words.Change = no_feed_by_test (spelling words.Change) refl
spelling_no_feed words.Remove = no_feed_by_test (spelling words.Remove) refl
spelling_no_feed words.Segment = no_feed_by_test (spelling words.Segment) refl
spelling_no_feed words.Split = no_feed_by_test (spelling words.Split) refl
spelling_no_feed words.Meet = no_feed_by_test (spelling words.Meet) refl
spelling_no_feed words.Corner = no_feed_by_test (spelling words.Corner) refl
spelling_no_feed words.End = no_feed_by_test (spelling words.End) refl

text_no_feed : (item : Item) → IsLine item → HasNoFeed (text_of item)
text_no_feed item line =
    no_feed-append (spelling (word_of item)) (led_numbers (numbers_of item)) (spelling_no_feed (word_of item))
    (led_no_feed (numbers_of item) (line_numbers item line))

-- ---- the cuts
lines_at_other : (part : List ℕ) (b : ℕ) (bytes : List ℕ) → b ≢ 10 → lines_from part (b ∷ bytes) ≡ lines_from (part ++ b ∷ []) bytes
lines_at_other part b bytes other = grind (arith, nat_tests)

part_at_other : (part : List ℕ) (b : ℕ) (bytes : List ℕ) → b ≢ 10 → part_from part (b ∷ bytes) ≡ part_from (part ++ b ∷ []) bytes
part_at_other part b bytes other = grind (arith, nat_tests)

-- one line, and what comes behind its line feed
lines_from-line : (part line bytes : List ℕ) → HasNoFeed line
    → lines_from part (line ++ 10 ∷ bytes) ≡ (part ++ line) ∷ lines_from [] bytes
lines_from-line part [] bytes none = ap (λ (l : List ℕ). l ∷ lines_from [] bytes) (sym (append-nil part))
lines_from-line part (b ∷ line) bytes none =
    lines_at_other part b (line ++ 10 ∷ bytes) none.0 ∙ lines_from-line (part ++ b ∷ []) line bytes none.1
    ∙ ap (λ (l : List ℕ). l ∷ lines_from [] bytes) (append_assoc part (b ∷ []) line)

part_from-line : (part line bytes : List ℕ) → HasNoFeed line → part_from part (line ++ 10 ∷ bytes) ≡ part_from [] bytes
part_from-line part [] bytes none = refl
part_from-line part (b ∷ line) bytes none =
    part_at_other part b (line ++ 10 ∷ bytes) none.0 ∙ part_from-line (part ++ b ∷ []) line bytes none.1

-- all lines
first_line : (item : Item) (list : List Item)
    → lines_of_items (item ∷ list) ≡ text_of item ++ 10 ∷ lines_of_items list
first_line item list = append_assoc (text_of item) (10 ∷ []) (lines_of_items list)

whole : (list : List Item) → All IsLine list → lines_from [] (lines_of_items list) ≡ map text_of list
whole [] are = refl
whole (item ∷ list) are =
    ap (lines_from []) (first_line item list)
    ∙ lines_from-line [] (text_of item) (lines_of_items list) (text_no_feed item (All-head IsLine item list are))
    ∙ ap (λ (ls : List (List ℕ)). text_of item ∷ ls) (whole list (All-tail IsLine item list are))

none_behind : (list : List Item) → All IsLine list → part_from [] (lines_of_items list) ≡ []
none_behind [] are = refl
none_behind (item ∷ list) are =
    ap (part_from []) (first_line item list)
    ∙ part_from-line [] (text_of item) (lines_of_items list) (text_no_feed item (All-head IsLine item list are))
    ∙ none_behind list (All-tail IsLine item list are)

pub lines_of_certificate : (list : List Item) → All IsLine list → all_lines (lines_of_items list) ≡ map text_of list
lines_of_certificate list are =
    let one = whole list are in
    let other = none_behind list are in
    rw (one, other) (append-nil (map text_of list))
