-- This file shows that the parser refuses no command, and tells the words that it takes.
use Rattle.std.proofs.Common.{◌≡◌, ◌≢◌, ◌≤◌, ◌<◌, ◌^◌, ◌∙◌, ℕ, List, [], ◌∷◌, Option, Some, None, true, refl, sym, ap, subst}
use Rattle.std.proofs.Common.{inl, inr, arith, slice_index}
use Rattle.std.specs.List.{All}
use Rattle.std.specs.Fmt.{decimal}
use Rattle.std.specs.Prelude.{option_map, codes}
use Rattle.std.proofs.lemmas.Bool.{cases_lt}
use Rattle.std.proofs.lemmas.Fmt.{decimal_digit, first_decimal}
use Rattle.std.proofs.lemmas.List.Elements.{All-cons, All-nil}
use Rattle.clap.specs.Words.{HasKind, fault_of, is_simple, is_simple_and_free, kind_of, subcommand_of}
use Rattle.clap.specs.declared.error.Error.{Error}
use Rattle.clap.specs.declared.error.kind.ErrorKind.TheVariants.{OutOfMemory}
use Rattle.clap.proofs.OnLiterals.{clap_on_literals}
use Rattle.command_words.specs.Written.{IsAllowed, IsNoCommand, words_of}
use Rattle.command_words.specs.Parsing.{IsNoFlag, IsSpelled, commands, texts_of, told}
use Rattle.command_words.specs.declared.parsing.Spelling.{Spelling}
use Rattle.command_words.specs.declared.word.Word.{Word}
use Rattle.command_words.specs.declared.word.Word.TheVariants.{Run, Check, Gen, Ship, Follow, Certify, Audit}
use Rattle.command_words.proofs.Levels.{audit_passes, certify_passes, check_passes, follow_passes, gen_passes, run_passes}
use Rattle.command_words.proofs.Levels.{ship_passes, told_again}

-- ---- the words of a command

-- a first byte from 48 on is no hyphen, and no text has it that is empty
from_digit : (text : List ℕ) → 48 ≤ slice_index text 0 → IsNoFlag text
from_digit [] digit = absurd (omega arith)
from_digit (x ∷ xs) digit = (omega arith, λ e. omega (arith, digit, e))

-- a number's own text begins with a digit
number_is_no_flag : (n : ℕ) → n < 2 ^ 64 → IsNoFlag (decimal n)
number_is_no_flag n fits = elim (cases_lt 0 n) [
  | inl some ↦ from_digit (decimal n) (omega (arith, first_decimal n some fits))
  | inr none ↦
      let is_zero : n ≡ 0 = omega (arith, none) in
      let text : decimal n ≡ 48 ∷ [] = ap decimal is_zero ∙ decimal_digit 0 (omega arith) in
      subst IsNoFlag (sym text) (omega arith, λ e. omega (arith, e))
]

alone_is_no_flag : (word : List ℕ) → IsNoFlag word → All IsNoFlag (word ∷ [])
alone_is_no_flag word plain = All-cons IsNoFlag word [] plain (All-nil IsNoFlag)

-- no word of a command is a flag
pub command_has_no_flag : (word : Word) → IsAllowed word → All IsNoFlag (words_of word)
command_has_no_flag Run allowed = alone_is_no_flag (codes "run") (omega arith, λ e. omega (arith, e))
command_has_no_flag Check allowed = alone_is_no_flag (codes "check") (omega arith, λ e. omega (arith, e))
command_has_no_flag (Gen lines start) allowed =
    let start_alone = alone_is_no_flag (decimal start) (number_is_no_flag start (omega arith)) in
    All-cons IsNoFlag (codes "gen") (decimal lines ∷ decimal start ∷ []) (omega arith, λ e. omega (arith, e))
    (All-cons IsNoFlag (decimal lines) (decimal start ∷ []) (number_is_no_flag lines (omega arith)) start_alone)
command_has_no_flag (Ship changes) allowed =
    All-cons IsNoFlag (codes "ship") (decimal changes ∷ []) (omega arith, λ e. omega (arith, e))
    (alone_is_no_flag (decimal changes) (number_is_no_flag changes (omega arith)))
command_has_no_flag Follow allowed = alone_is_no_flag (codes "follow") (omega arith, λ e. omega (arith, e))
command_has_no_flag Certify allowed = alone_is_no_flag (codes "certify") (omega arith, λ e. omega (arith, e))
command_has_no_flag Audit allowed = alone_is_no_flag (codes "audit") (omega arith, λ e. omega (arith, e))

-- the parser refuses no command
command_passes : (word : Word) → IsAllowed word → fault_of commands (words_of word) ≡ []
command_passes Run allowed = run_passes
command_passes Check allowed = check_passes
command_passes (Gen lines start) allowed =
    gen_passes (decimal lines) (decimal start) (number_is_no_flag lines (omega arith)) (number_is_no_flag start (omega arith))
command_passes (Ship changes) allowed = ship_passes (decimal changes) (number_is_no_flag changes (omega arith))
command_passes Follow allowed = follow_passes
command_passes Certify allowed = certify_passes
command_passes Audit allowed = audit_passes

no_words : IsNoCommand []
no_words Run is = let e = is.0 in cc
no_words Check is = let e = is.0 in cc
no_words (Gen lines start) is = let e = is.0 in cc
no_words (Ship changes) is = let e = is.0 in cc
no_words Follow is = let e = is.0 in cc
no_words Certify is = let e = is.0 in cc
no_words Audit is = let e = is.0 in cc

-- ---- what the parser's clauses say of the commands

-- no argument has a rule on another
pub commands_are_free : is_simple_and_free commands ≡ true
unfolding clap_on_literals
commands_are_free = refl

-- and no setting changes how words are read
pub commands_are_simple : is_simple commands ≡ true
unfolding clap_on_literals
commands_are_simple = refl

nothing_told : told (subcommand_of commands []) ≡ None
unfolding clap_on_literals
nothing_told = refl

-- an error that isn't want of memory comes only where the words are no command
pub refused_is_no_command : (words : List (List ℕ)) (error : Error) → kind_of error ≢ OutOfMemory
    → HasKind (fault_of commands words) error → IsNoCommand words
refused_is_no_command words error other has = λ word is.
    let none : fault_of commands words ≡ [] = ap (fault_of commands) is.0 ∙ command_passes word is.1 in
    elim (subst (λ kinds. HasKind kinds error) none has) [
      | inl memory ↦ other memory
      | inr among ↦ among
    ]

-- where the words fail nowhere, what the matches tell spells them
pub taken_is_spelled : (words : List (List ℕ)) (found : Option Spelling) → All IsNoFlag words → fault_of commands words ≡ []
    → option_map texts_of found ≡ told (subcommand_of commands words) → IsSpelled words found
taken_is_spelled words None plain none is = elim (told_again words plain none) [
  | inl empty ↦ subst IsNoCommand (sym empty) no_words
  | inr again ↦ let e = is ∙ again in cc
]
taken_is_spelled words (Some spelling) plain none is = elim (told_again words plain none) [
  | inl empty ↦ let e = is ∙ (ap (λ w. told (subcommand_of commands w)) empty ∙ nothing_told) in cc
  | inr again ↦ let e = is ∙ again in cc
]
