-- A number's own text is plain and is parsed as this number; and a plain text that is parsed as a number is its own.
use Rattle.std.proofs.Common.{◌≡◌, ◌<◌, ◌^◌, ℕ, List, [], ◌∷◌, Result, Ok, true, length, sym, ap, refl, subst, ◌∙◌, arith, inl, inr}
use Rattle.std.proofs.lemmas.Bool.{cases_lt}
use Rattle.std.proofs.lemmas.Fmt.{parse-decimal, decimal-digits_value, decimal_digit, first_decimal}
use Rattle.std.proofs.lemmas.Str.Parse.{parse_plain}
use Rattle.std.specs.Fmt.{decimal}
use Rattle.std.specs.Str.Parse.{ParsesUnsigned}
use Rattle.std.specs.Result.{OkIff}
use Rattle.line_grammar.proofs.Numbers.{own}
use Rattle.line_grammar.proofs.Runs.{Passes}
use Rattle.line_grammar.specs.Reading.{value_from}
use Rattle.line_grammar.specs.Spellable.{is_digit}
use Rattle.command_words.specs.Written.{IsPlain, IsNumberText}
use Rattle.command_words.proofs.numbers.number_of.Goals as goal

-- the text of a number is plain: it begins with 0 for 0 alone
plain_text : (n : ℕ) → n < 2 ^ 64 → IsPlain (decimal n)
plain_text n h = elim (cases_lt 0 n) [
  | inl some ↦ (let first = first_decimal n some h in (λ e. omega (arith, first, e), λ e. absurd (omega (arith, first, e))))
  | inr none ↦ let zero : n ≡ 0 = omega (arith, none) in
      let text : decimal n ≡ 48 ∷ [] = ap decimal zero ∙ decimal_digit 0 (omega arith) in
      subst IsPlain (sym text) (λ e. omega (arith, e), λ e. refl)
]

read_back : {E : Type 0} (text : List ℕ) (most n : ℕ) (r : Result ℕ E) → most < 2 ^ 64 → IsNumberText text most n
    → ParsesUnsigned 64 10 text r → r ≡ Ok n
read_back text most n r fits is parses = parse-decimal 64 n text r (omega arith) (omega arith) is.0 parses

-- a plain text that is parsed as a number is the text of this number
own_text : {E : Type 0} (text : List ℕ) (n : ℕ) (r : Result ℕ E) → IsPlain text → r ≡ Ok n → ParsesUnsigned 64 10 text r → text ≡ decimal n
own_text {E} text n r plain is parses =
    let parsed = subst (λ (s : Result ℕ E). OkIff s (Passes is_digit text × (0 < length text) × (value_from 0 text < 2 ^ 64)) (value_from 0 text))
    is (parse_plain own 64 text r parses plain.0) in
    sym (decimal-digits_value own text parsed.0.0 parsed.0.1 plain.1 parsed.0.2) ∙ ap decimal (sym parsed.1)

pub returns-then-not-is_plain : goal.returns-then-not-is_plain
returns-then-not-is_plain c = λ n is.
    let plain = subst IsPlain (sym (c.as_bytes.ensures.value ∙ is.0)) (plain_text n (omega arith)) in
    let yes : c.is_plain.result ≡ true = c.is_plain.ensures.1 plain in
    cc

pub returns-in-Ok : goal.returns-in-Ok
returns-in-Ok c =
    let plain = subst IsPlain c.as_bytes.ensures.value (c.is_plain.ensures.0 c.if-not-is_plain.false) in
    (own_text c.args.text.now c.in-Ok.number c.parse.result plain c.in-Ok.is c.parse.ensures.value.0, c.if-number-most.true)

pub returns-in_default : goal.returns-in_default
returns-in_default c = λ n is.
    let back = read_back c.args.text.now c.args.most n c.parse.result (omega arith) is c.parse.ensures.value.0 in
    let same : c.in-Ok.number ≡ n = cc in
    omega (arith, is.1)

pub returns-in_default-2 : goal.returns-in_default-2
returns-in_default-2 c = λ n is.
    let back = read_back c.args.text.now c.args.most n c.parse.result (omega arith) is c.parse.ensures.value.0 in
    cc
