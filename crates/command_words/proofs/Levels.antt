-- This file shows which words that are no flags the parser takes, and that its matches tell these words again: a
-- name alone, `gen` with two words behind it, and `ship` with one.
use Rattle.std.proofs.Common.{◌≡◌, ◌⊎◌, ◌∙◌, List, [], ◌∷◌, Some, true, false, refl, sym, ap, subst, inl, inr}
use Rattle.std.proofs.Common.{codes}
use Rattle.std.specs.List.{All}
use Rattle.std.proofs.lemmas.List.Elements.{All-head, All-tail}
use Rattle.clap.specs.Walk.{Rule, Text, Walk, idle, finished, nothing_held, settled, subcommand_met, walk, walked}
use Rattle.clap.specs.Simple.{Shape, built, entered, filled_from, new_shape, subcommand_of}
use Rattle.clap.specs.Kinds.{or_else}
use Rattle.clap.specs.Faults.{check_fault, defaults_fault, entered_fault, fault_of, level_fault, settle_fault, walk_fault}
use Rattle.clap.proofs.FaultLemmas.{past}
use Rattle.clap.proofs.OnLiterals.{clap_on_literals}
use Rattle.command_words.specs.Parsing.{IsNoFlag, commands, needed, told}
use Rattle.command_words.proofs.FirstWords.{named_or_not, names}
use Rattle.command_words.proofs.Steps.{at, fails_as_rest, given, level_parts, name_walked, rest_passes, stray_word_fails, value_walked}

-- ---- the levels of the seven commands

-- a command as the parser builds it
abbrev leaf : Text → List Rule → Shape
leaf name rules = record (new_shape name) {
  rules = rules;
  no_binary_name = true;
  disable_help_flag = true;
  disable_help_subcommand = true;
  is_built = true;
}

abbrev numbers : List Rule
numbers = filled_from 1 (needed (codes "N") ∷ needed (codes "START") ∷ [])

abbrev gen_level : Shape
gen_level = leaf (codes "gen") numbers

abbrev number : List Rule
number = filled_from 1 (needed (codes "K") ∷ [])

abbrev ship_level : Shape
ship_level = leaf (codes "ship") number

abbrev top : Shape
top = (built commands).top

-- a command without numbers takes no word behind its name
no_more : (name : Text) (rest : List Text) → All IsNoFlag rest → level_fault (leaf name []) [] nothing_held rest false [] ≡ []
    → rest ≡ []
no_more name [] plain none = refl
no_more name (x ∷ xs) plain none =
    let parts = level_parts (leaf name []) [] (x ∷ xs) false [] none in
    absurd (stray_word_fails [] nothing_held 1 x (All-head IsNoFlag x xs plain) refl (leaf name []) xs refl parts.words_pass)

-- the walk behind `gen` after one number, and after both
abbrev after_lines : Text → Walk
after_lines lines = given numbers nothing_held 1 lines

abbrev after_start : Text → Text → Walk
after_start lines start = given numbers (after_lines lines).held 2 start

both_walked : (lines start : Text) → IsNoFlag lines → IsNoFlag start
    → walk numbers [] nothing_held (lines ∷ start ∷ []) ≡ after_start lines start
both_walked lines start p q = ap (λ w. walked numbers [] w start) (value_walked [] nothing_held 1 lines p refl numbers)
    ∙ value_walked [] (after_lines lines).held 2 start q refl numbers

-- behind `gen` stand two words: one too few, and a number is missing; one too many, and it has no place
two_numbers : (rest : List Text) → All IsNoFlag rest → level_fault gen_level [] nothing_held rest false [] ≡ []
    → (lines : Text) × (start : Text) × (rest ≡ lines ∷ start ∷ [])
two_numbers [] plain none =
    let missing = (level_parts gen_level [] [] false [] none).checks_pass in
    absurd (cc missing)
two_numbers (lines ∷ []) plain none =
    let walked_here = value_walked [] nothing_held 1 lines (All-head IsNoFlag lines [] plain) refl numbers in
    let missing = ap (λ (w : Walk). check_fault gen_level (finished numbers w.held) false) (sym walked_here)
    ∙ (level_parts gen_level [] (lines ∷ []) false [] none).checks_pass in
    absurd (cc missing)
two_numbers (lines ∷ start ∷ []) plain none = (lines, start, refl)
two_numbers (lines ∷ start ∷ more ∷ rest) plain none =
    let all_pass = (level_parts gen_level [] (lines ∷ start ∷ more ∷ rest) false [] none).words_pass in
    let from_start = All-tail IsNoFlag lines (start ∷ more ∷ rest) plain in
    let from_more = All-tail IsNoFlag start (more ∷ rest) from_start in
    let start_passes = rest_passes [] nothing_held 1 lines (All-head IsNoFlag lines (start ∷ more ∷ rest) plain) refl
    gen_level (start ∷ more ∷ rest) all_pass in
    let more_passes = rest_passes [] (after_lines lines).held 2 start (All-head IsNoFlag start (more ∷ rest) from_start) refl
    gen_level (more ∷ rest) start_passes in
    absurd (stray_word_fails [] (after_start lines start).held 3 more (All-head IsNoFlag more rest from_more) refl
    gen_level rest refl more_passes)

-- and two such words fail in no part
two_numbers_pass : (lines start : Text) → IsNoFlag lines → IsNoFlag start
    → level_fault gen_level [] nothing_held (lines ∷ start ∷ []) false [] ≡ []
unfolding walk_fault defaults_fault
two_numbers_pass lines start p q =
    let words_pass = fails_as_rest [] nothing_held 1 lines p refl gen_level (start ∷ []) refl
    ∙ fails_as_rest [] (after_lines lines).held 2 start q refl gen_level [] refl in
    past (walk_fault gen_level [] (at nothing_held 1) (lines ∷ start ∷ [])) _ words_pass
    ∙ ap (λ (w : Walk). or_else (settle_fault numbers false w.held) (or_else (defaults_fault (settled numbers w.held).rows numbers)
    (check_fault gen_level (finished numbers w.held) false))) (both_walked lines start p q)

-- the walk behind `ship` after its number
abbrev after_changes : Text → Walk
after_changes changes = given number nothing_held 1 changes

one_walked : (changes : Text) → IsNoFlag changes → walk number [] nothing_held (changes ∷ []) ≡ after_changes changes
one_walked changes p = value_walked [] nothing_held 1 changes p refl number

-- behind `ship` stands one word
one_number : (rest : List Text) → All IsNoFlag rest → level_fault ship_level [] nothing_held rest false [] ≡ []
    → (changes : Text) × (rest ≡ changes ∷ [])
one_number [] plain none =
    let missing = (level_parts ship_level [] [] false [] none).checks_pass in
    absurd (cc missing)
one_number (changes ∷ []) plain none = (changes, refl)
one_number (changes ∷ more ∷ rest) plain none =
    let all_pass = (level_parts ship_level [] (changes ∷ more ∷ rest) false [] none).words_pass in
    let from_more = All-tail IsNoFlag changes (more ∷ rest) plain in
    let more_passes = rest_passes [] nothing_held 1 changes (All-head IsNoFlag changes (more ∷ rest) plain) refl
    ship_level (more ∷ rest) all_pass in
    absurd (stray_word_fails [] (after_changes changes).held 2 more (All-head IsNoFlag more rest from_more) refl
    ship_level rest refl more_passes)

-- and one such word fails in no part
one_number_passes : (changes : Text) → IsNoFlag changes → level_fault ship_level [] nothing_held (changes ∷ []) false [] ≡ []
unfolding walk_fault defaults_fault
one_number_passes changes p =
    let words_pass = fails_as_rest [] nothing_held 1 changes p refl ship_level [] refl in
    past (walk_fault ship_level [] (at nothing_held 1) (changes ∷ [])) _ words_pass
    ∙ ap (λ (w : Walk). or_else (settle_fault number false w.held) (or_else (defaults_fault (settled number w.held).rows number)
    (check_fault ship_level (finished number w.held) false))) (one_walked changes p)

-- ---- the whole parse

-- what stands behind a name fails nowhere, where the words don't
behind_passes : (name : Text) (rest : List Text) → subcommand_met names idle name ≡ Some name → fault_of commands (name ∷ rest) ≡ []
    → entered_fault (built commands) (Some (name, rest)) ≡ []
behind_passes name rest met none =
    let stops = walk [] names nothing_held (name ∷ rest) in
    let parts = level_parts top names (name ∷ rest) _ (entered_fault (built commands) stops.stopped) none in
    ap (λ (w : Walk). entered_fault (built commands) w.stopped) (sym (name_walked [] names name rest met)) ∙ parts.below_passes

run_told : told (subcommand_of commands (codes "run" ∷ [])) ≡ Some (codes "run" ∷ [])
unfolding clap_on_literals
run_told = refl

check_told : told (subcommand_of commands (codes "check" ∷ [])) ≡ Some (codes "check" ∷ [])
unfolding clap_on_literals
check_told = refl

follow_told : told (subcommand_of commands (codes "follow" ∷ [])) ≡ Some (codes "follow" ∷ [])
unfolding clap_on_literals
follow_told = refl

certify_told : told (subcommand_of commands (codes "certify" ∷ [])) ≡ Some (codes "certify" ∷ [])
unfolding clap_on_literals
certify_told = refl

audit_told : told (subcommand_of commands (codes "audit" ∷ [])) ≡ Some (codes "audit" ∷ [])
unfolding clap_on_literals
audit_told = refl

-- the parser goes down to `gen`, and has there a row for each number
gen_told : (lines start : Text) → IsNoFlag lines → IsNoFlag start
    → told (subcommand_of commands (codes "gen" ∷ lines ∷ start ∷ [])) ≡ Some (codes "gen" ∷ lines ∷ start ∷ [])
gen_told lines start p q =
    ap (λ (w : Walk). told (entered (built commands) w.stopped)) (name_walked [] names (codes "gen") (lines ∷ start ∷ []) refl)
    ∙ ap (λ (w : Walk). told (Some (codes "gen", finished numbers w.held))) (both_walked lines start p q)

-- and to `ship`, where it has a row for the one
ship_told : (changes : Text) → IsNoFlag changes
    → told (subcommand_of commands (codes "ship" ∷ changes ∷ [])) ≡ Some (codes "ship" ∷ changes ∷ [])
ship_told changes p =
    ap (λ (w : Walk). told (entered (built commands) w.stopped)) (name_walked [] names (codes "ship") (changes ∷ []) refl)
    ∙ ap (λ (w : Walk). told (Some (codes "ship", finished number w.held))) (one_walked changes p)

pub run_passes : fault_of commands (codes "run" ∷ []) ≡ []
unfolding clap_on_literals
run_passes = refl

pub check_passes : fault_of commands (codes "check" ∷ []) ≡ []
unfolding clap_on_literals
check_passes = refl

pub follow_passes : fault_of commands (codes "follow" ∷ []) ≡ []
unfolding clap_on_literals
follow_passes = refl

pub certify_passes : fault_of commands (codes "certify" ∷ []) ≡ []
unfolding clap_on_literals
certify_passes = refl

pub audit_passes : fault_of commands (codes "audit" ∷ []) ≡ []
unfolding clap_on_literals
audit_passes = refl

-- at the name the level above is done, and fails as the one below
pub gen_passes : (lines start : Text) → IsNoFlag lines → IsNoFlag start → fault_of commands (codes "gen" ∷ lines ∷ start ∷ []) ≡ []
unfolding walk_fault walked defaults_fault
gen_passes lines start p q = ap (λ k. or_else k []) (two_numbers_pass lines start p q)

pub ship_passes : (changes : Text) → IsNoFlag changes → fault_of commands (codes "ship" ∷ changes ∷ []) ≡ []
unfolding walk_fault walked defaults_fault
ship_passes changes p = ap (λ k. or_else k []) (one_number_passes changes p)

-- where the words fail nowhere, they are none, or what was met tells them again
pub told_again : (words : List Text) → All IsNoFlag words → fault_of commands words ≡ []
    → (words ≡ []) ⊎ (told (subcommand_of commands words) ≡ Some words)
told_again [] plain none = inl refl
told_again (word ∷ rest) plain none =
    let behind = All-tail IsNoFlag word rest plain in
    let passes_as : (name : Text) → word ≡ name → fault_of commands (name ∷ rest) ≡ [] =
    λ name is. subst (λ w. fault_of commands (w ∷ rest) ≡ []) is none in
    elim (named_or_not word) [
      | inl is ↦
          let alone = no_more (codes "run") rest behind (behind_passes (codes "run") rest refl (passes_as (codes "run") is)) in
          inr (rw (is, alone) run_told)
      | inr (inl is) ↦
          let alone = no_more (codes "check") rest behind (behind_passes (codes "check") rest refl (passes_as (codes "check") is)) in
          inr (rw (is, alone) check_told)
      | inr (inr (inl is)) ↦
          let (lines, start, both) = two_numbers rest behind (behind_passes (codes "gen") rest refl (passes_as (codes "gen") is)) in
          let plain_both = subst (All IsNoFlag) both behind in
          let plain_start = All-head IsNoFlag start [] (All-tail IsNoFlag lines (start ∷ []) plain_both) in
          inr (rw (is, both) (gen_told lines start (All-head IsNoFlag lines (start ∷ []) plain_both) plain_start))
      | inr (inr (inr (inl is))) ↦
          let (changes, one) = one_number rest behind (behind_passes (codes "ship") rest refl (passes_as (codes "ship") is)) in
          inr (rw (is, one) (ship_told changes (All-head IsNoFlag changes [] (subst (All IsNoFlag) one behind))))
      | inr (inr (inr (inr (inl is)))) ↦
          let alone = no_more (codes "follow") rest behind (behind_passes (codes "follow") rest refl (passes_as (codes "follow") is)) in
          inr (rw (is, alone) follow_told)
      | inr (inr (inr (inr (inr (inl is))))) ↦
          let alone = no_more (codes "certify") rest behind (behind_passes (codes "certify") rest refl (passes_as (codes "certify") is)) in
          inr (rw (is, alone) certify_told)
      | inr (inr (inr (inr (inr (inr (inl is)))))) ↦
          let alone = no_more (codes "audit") rest behind (behind_passes (codes "audit") rest refl (passes_as (codes "audit") is)) in
          inr (rw (is, alone) audit_told)
      | inr (inr (inr (inr (inr (inr (inr unnamed)))))) ↦
          let parts = level_parts top names (word ∷ rest) _ _ none in
          absurd (stray_word_fails names nothing_held 1 word (All-head IsNoFlag word rest plain) unnamed top rest refl parts.words_pass)
    ]
