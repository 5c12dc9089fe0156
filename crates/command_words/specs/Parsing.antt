-- What the parser of command lines is told of the commands, and what its matches tell. No public clause cites
-- this file.
use Rattle.std.specs.Prelude.{◌≡◌, ◌≢◌, ◌<◌, ℕ, List, [], ◌∷◌, true, codes, length, slice_index}
use Rattle.std.specs.Prelude.{Option, Some, MatchOption, if◌then◌else◌}
use Rattle.std.specs.Prelude.{option_and_then, option_map, bytes_eq}
use Rattle.clap.specs.Words.{App, Row, Rule, Text, first_of, new_app, new_rule, with_rule}
use Rattle.clap.specs.Words.{with_subcommand}
use Rattle.command_words.specs.Written.{IsNoCommand}
use Rattle.command_words.specs.declared.parsing.Spelling.{Spelling}
use Rattle.command_words.specs.declared.parsing.Spelling.TheVariants as spelling

-- the word is not empty, and begins with no hyphen (45)
abbrev pub IsNoFlag : List ℕ → Type 0
IsNoFlag word = (0 < length word) × (slice_index word 0 ≢ 45)

-- the words that are spelled so
abbrev pub texts_of : Spelling → List (List ℕ)
texts_of spelling.Run = codes "run" ∷ []
texts_of spelling.Check = codes "check" ∷ []
texts_of (spelling.Gen lines start) = codes "gen" ∷ lines.now ∷ start.now ∷ []
texts_of (spelling.Ship changes) = codes "ship" ∷ changes.now ∷ []
texts_of spelling.Follow = codes "follow" ∷ []
texts_of spelling.Certify = codes "certify" ∷ []
texts_of spelling.Audit = codes "audit" ∷ []

-- what is found spells the words, and nothing is found only where they are no command
abbrev pub IsSpelled : List (List ℕ) → Option Spelling → Type 0
IsSpelled words found = MatchOption found (IsNoCommand words) (λ spelled. words ≡ texts_of spelled)

-- ---- what the parser is told

-- an argument that has to be given
abbrev pub needed : Text → Rule
needed id = record (new_rule id) { required = true }

-- the program: the first word is no name of it, and no help is made
abbrev pub program : App
program = record {
  top = record (new_app (codes "rose")).top {
    no_binary_name = true;
    disable_help_flag = true;
    disable_help_subcommand = true;
  };
  subs = [];
}

-- `gen` with its two numbers
abbrev pub generate : App
generate = with_rule (with_rule (new_app (codes "gen")) (needed (codes "N")))
    (needed (codes "START"))

-- `ship` with its number
abbrev pub ship : App
ship = with_rule (new_app (codes "ship")) (needed (codes "K"))

-- the program with the first three commands
abbrev pub first_three : App
first_three = with_subcommand (with_subcommand (with_subcommand program
    (new_app (codes "run")).top) (new_app (codes "check")).top) generate.top

-- the program with its seven commands
abbrev pub commands : App
commands = with_subcommand (with_subcommand (with_subcommand (with_subcommand first_three ship.top)
    (new_app (codes "follow")).top) (new_app (codes "certify")).top) (new_app (codes "audit")).top

-- ---- what its matches tell

-- the words of `gen` with the numbers that were met
abbrev pub numbers_told : List Row → Option (List Text)
numbers_told rows = option_and_then (λ lines.
    option_map (λ start. codes "gen" ∷ lines ∷ start ∷ []) (first_of (codes "START") rows))
    (first_of (codes "N") rows)

-- the words of `ship` with the number that was met
abbrev pub number_told : List Row → Option (List Text)
number_told rows =
    option_map (λ changes. codes "ship" ∷ changes ∷ []) (first_of (codes "K") rows)

-- the words of the command of this name
abbrev pub told_by : Text → List Row → Option (List Text)
told_by name rows = if bytes_eq name (codes "run") then Some (codes "run" ∷ [])
    else (if bytes_eq name (codes "check") then Some (codes "check" ∷ [])
    else (if bytes_eq name (codes "ship") then number_told rows
    else (if bytes_eq name (codes "follow") then Some (codes "follow" ∷ [])
    else (if bytes_eq name (codes "certify") then Some (codes "certify" ∷ [])
    else (if bytes_eq name (codes "audit") then Some (codes "audit" ∷ [])
    else numbers_told rows)))))

-- the words of the command that was met
abbrev pub told : Option (Text × List Row) → Option (List Text)
told met = option_and_then (λ p. told_by p.0 p.1) met
