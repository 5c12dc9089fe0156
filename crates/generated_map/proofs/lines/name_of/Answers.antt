-- Digits are bytes of a name, and a number of 6 digits at most leaves room in it.
use Rattle.std.proofs.Common.{◌≡◌, ◌≤◌, ℕ, List, [], ◌∷◌, true, refl, sym, ◌∙◌, subst, arith}
use Rattle.std.proofs.lemmas.Fmt.{digits_decimal, length-decimal-le}
use Rattle.std.specs.Fmt.{decimal}
use Rattle.std.specs.List.{AllByRecursion}
use Rattle.line_grammar.specs.Spellable.{IsName, is_digit, is_name_byte}
use Rattle.line_grammar.proofs.Numbers.{own}
use Rattle.line_grammar.proofs.Runs.{Passes}
use Rattle.generated_map.specs.Generated.{name_of}
use Rattle.generated_map.proofs.lines.name_of.Goals as goal

digits_are_name_bytes : (ds : List ℕ) → Passes is_digit ds → AllByRecursion (λ c. is_name_byte c ≡ true) ds
digits_are_name_bytes [] pass = tt
digits_are_name_bytes (d ∷ ds) pass = (grind (arith, pass.0), digits_are_name_bytes ds pass.1)

is_name : (i : ℕ) → i ≤ 100000 → IsName (name_of i)
is_name i few = (
  refl,
  digits_are_name_bytes (decimal i) (digits_decimal own i (omega arith)),
  (let short = length-decimal-le 6 i (omega arith) (omega arith) (omega arith) in omega (arith, short)),
)

pub returns : goal.returns
returns c =
    let text : c.new.result ≡ name_of c.args.number = c.new.ensures ∙ c.in_ok-text.ensures.ok in
    record { name = text; spellable = subst IsName (sym text) (is_name c.args.number c.requires.few) }
