-- This file shows how the parser takes one word that is no flag: for a value, where it names no subcommand, and at a
-- name for the words behind it.
use Rattle.std.proofs.Common.{◌≡◌, ◌∙◌, ℕ, Bool, List, [], ◌∷◌, Some, None, true, false, cond, refl, sym, ap}
use Rattle.std.specs.List.{fold}
use Rattle.std.specs.Option.{option_map_or}
use Rattle.std.specs.Str.{bytes_eq}
use Rattle.std.proofs.lemmas.Bool.{ne_eqb}
use Rattle.clap.specs.Lexer.{long_of, short_of}
use Rattle.clap.specs.Walk.{Held, Names, Rule, Text, Walk, idle, subcommand, value, arg_by_index, finished, nothing_held}
use Rattle.clap.specs.Walk.{settled, subcommand_met, subcommand_or_other, to_positional, walk, walk_from, walked, word_met}
use Rattle.clap.specs.Simple.{Shape}
use Rattle.clap.specs.Kinds.{Kinds, or_else}
use Rattle.clap.specs.Faults.{check_fault, defaults_fault, level_fault, other_fault, positional_fault, settle_fault}
use Rattle.clap.specs.Faults.{step_fault, stray_fault, turn_fault, walk_fault, word_fault}
use Rattle.clap.specs.declared.error.kind.ErrorKind.TheVariants.{InvalidSubcommand, UnknownArgument}
use Rattle.clap.proofs.FaultLemmas.{past, turn_is}
use Rattle.clap.proofs.WalkLemmas.{walk_stopped, walked_is}
use Rattle.command_words.specs.Parsing.{IsNoFlag}

-- ---- a word that begins with no hyphen is neither `--` nor an option

no_dashes : (word : Text) → IsNoFlag word → bytes_eq word (45 ∷ 45 ∷ []) ≡ false
no_dashes [] plain = refl
no_dashes (x ∷ xs) plain = rw (ne_eqb x 45 plain.1) refl

no_long : (word : Text) → IsNoFlag word → long_of word ≡ None
no_long [] plain = refl
no_long (x ∷ xs) plain = rw (ne_eqb x 45 plain.1) refl

no_short : (word : Text) → IsNoFlag word → short_of word ≡ None
no_short [] plain = refl
no_short (x ∷ xs) plain = rw (ne_eqb x 45 plain.1) refl

-- ---- where no kind comes of two steps, none comes of either

pub first_none : (a b : Kinds) → or_else a b ≡ [] → a ≡ []
first_none [] b e = refl
first_none (k ∷ ks) b e = e

pub second_none : (a b : Kinds) → or_else a b ≡ [] → b ≡ []
second_none [] b e = e
second_none (k ∷ ks) b e = cc

-- ---- one word

-- the walk between two words, where nothing waits for a value
abbrev pub at : Held → ℕ → Walk
at h position = record { held = h; waiting = idle; position = position; is_trailing = false; stopped = None }

-- the walk after a word that the positional in this place takes
abbrev pub given : List Rule → Held → ℕ → Text → Walk
given c h position word = to_positional c (arg_by_index c position) word (at h position) h

stray_fails : (s : Shape) → stray_fault s ≡ [] → ⊥
stray_fails s none = go s.is_leaf none
  where
    go : (b : Bool) → cond b (UnknownArgument ∷ []) (UnknownArgument ∷ InvalidSubcommand ∷ []) ≡ [] → ⊥
    go true e = cc
    go false e = cc

-- the parser knows the word by none of the names
abbrev pub IsUnnamed : Names → Text → Type 0
IsUnnamed names word = subcommand_met names idle word ≡ None

module _ (names : Names) (h : Held) (position : ℕ) (word : Text) (plain : IsNoFlag word) (unnamed : IsUnnamed names word) where
  value_met : (c : List Rule) → word_met c names false idle position word h ≡ (h, value)
  value_met c = ap (λ o. subcommand_or_other c o idle position word h) unnamed
      ∙ rw (no_dashes word plain, no_long word plain, no_short word plain) refl

  -- the word goes to the positional in its place
  pub value_walked : (c : List Rule) → walked c names (at h position) word ≡ given c h position word
  value_walked c = sym (walked_is c names (at h position) word h value (sym (value_met c)))

  faultless_word : (s : Shape) → word_fault s names false idle word h ≡ []
  faultless_word s = ap (λ o. other_fault s o word h) unnamed
      ∙ rw (no_dashes word plain, no_long word plain, no_short word plain) refl

  -- and fails only as that positional does
  value_fault : (s : Shape) → turn_fault s names (at h position) word ≡ step_fault s position h value
  value_fault s = sym (turn_is s names (at h position) word h value (sym (value_met s.rules)) (faultless_word s))

  -- so where the words fail nowhere, those behind it don't either
  pub rest_passes : (s : Shape) (rest : List Text) → walk_fault s names (at h position) (word ∷ rest) ≡ []
      → walk_fault s names (given s.rules h position word) rest ≡ []
  unfolding walk_fault
  rest_passes s rest none =
      let next = walked s.rules names (at h position) word in
      ap (λ w. walk_fault s names w rest) (sym (value_walked s.rules))
      ∙ second_none (turn_fault s names (at h position) word) (walk_fault s names next rest) none

  -- and where its positional doesn't fail, the words fail as those behind it
  pub fails_as_rest : (s : Shape) (rest : List Text) → step_fault s position h value ≡ []
      → walk_fault s names (at h position) (word ∷ rest) ≡ walk_fault s names (given s.rules h position word) rest
  unfolding walk_fault
  fails_as_rest s rest passes =
      let next = walked s.rules names (at h position) word in
      past (turn_fault s names (at h position) word) (walk_fault s names next rest) (value_fault s ∙ passes)
      ∙ ap (λ w. walk_fault s names w rest) (value_walked s.rules)

  -- with no positional in its place the word fails
  pub stray_word_fails : (s : Shape) (rest : List Text) → arg_by_index s.rules position ≡ None
      → walk_fault s names (at h position) (word ∷ rest) ≡ [] → ⊥
  unfolding walk_fault
  stray_word_fails s rest no_place none =
      let next = walked s.rules names (at h position) word in
      let turn = first_none (turn_fault s names (at h position) word) (walk_fault s names next rest) none in
      let stray : step_fault s position h value ≡ stray_fault s =
      ap (λ o. option_map_or (λ a. positional_fault s.rules s.args_override_self a h) o (stray_fault s)) no_place in
      stray_fails s (sym stray ∙ (sym (value_fault s) ∙ turn))

-- at a name the walk stops, and leaves the words behind it
pub name_walked : (c : List Rule) (names : Names) (name : Text) (rest : List Text) → subcommand_met names idle name ≡ Some name
    → ◌≡◌ {A = Walk} (walk c names nothing_held (name ∷ rest)) (record (walk_from nothing_held) { stopped = Some (name, rest) })
name_walked c names name rest met =
    let start = walk_from nothing_held in
    let met_here : word_met c names false idle 1 name nothing_held ≡ (nothing_held, subcommand name) =
    ap (λ o. subcommand_or_other c o idle 1 name nothing_held) met in
    ap (λ w. fold (walked c names) w rest) (sym (walked_is c names start name nothing_held (subcommand name) (sym met_here)))
    ∙ sym (walk_stopped c names start name [] rest)

-- ---- one level of the parse

-- where a level fails nowhere, neither do its words, the level below it and the last checks
pub record IsFaultless (s : Shape) (names : Names) (words : List Text) (has : Bool) (below : Kinds) : Type 0 where
  pub words_pass : walk_fault s names (at nothing_held 1) words ≡ []
  pub below_passes : below ≡ []
  pub checks_pass : check_fault s (finished s.rules (walk s.rules names nothing_held words).held) has ≡ []

pub level_parts : (s : Shape) (names : Names) (words : List Text) (has : Bool) (below : Kinds)
    → level_fault s names nothing_held words has below ≡ [] → IsFaultless s names words has below
level_parts s names words has below none =
    let end = (walk s.rules names nothing_held words).held in
    let walks = walk_fault s names (walk_from nothing_held) words in
    let settles = settle_fault s.rules s.args_override_self end in
    let defaults = defaults_fault (settled s.rules end).rows s.rules in
    let checks = check_fault s (finished s.rules end) has in
    let from_below = or_else below (or_else settles (or_else defaults checks)) in
    let after_walk = second_none walks from_below none in
    let after_below = second_none below (or_else settles (or_else defaults checks)) after_walk in
    record {
      words_pass = first_none walks from_below none;
      below_passes = first_none below (or_else settles (or_else defaults checks)) after_walk;
      checks_pass = second_none defaults checks (second_none settles (or_else defaults checks) after_below);
    }
