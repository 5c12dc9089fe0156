-- The words behind the program's name: which of them are a command, and which command.
use Rattle.std.specs.Prelude.{◌≡◌, ◌≢◌, ◌≤◌, ℕ, List, [], ◌∷◌, codes}
use Rattle.std.specs.Prelude.{length, slice_index, Option, MatchOption}
use Rattle.std.specs.Fmt.{decimal}
use Rattle.line_grammar.specs.Spellable.{IsNumber}
use Rattle.command_words.specs.declared.word.Word.{Word}
use Rattle.command_words.specs.declared.word.Word.TheVariants.{Run, Check, Gen, Ship, Follow, Certify, Audit}

-- the words of a command, each as its bytes: its name, and behind `gen` and `ship` their numbers
abbrev pub words_of : Word → List (List ℕ)
words_of Run = codes "run" ∷ []
words_of Check = codes "check" ∷ []
words_of (Gen lines start) = codes "gen" ∷ decimal lines ∷ decimal start ∷ []
words_of (Ship changes) = codes "ship" ∷ decimal changes ∷ []
words_of Follow = codes "follow" ∷ []
words_of Certify = codes "certify" ∷ []
words_of Audit = codes "audit" ∷ []

-- The numbers of a command are such as may be written: at most 100,000 lines, from any number of a line, and any
-- number of a line for the changes.
abbrev pub IsAllowed : Word → Type 0
IsAllowed Run = Unit {0}
IsAllowed Check = Unit {0}
IsAllowed (Gen lines start) = (lines ≤ 100000) × IsNumber start
IsAllowed (Ship changes) = IsNumber changes
IsAllowed Follow = Unit {0}
IsAllowed Certify = Unit {0}
IsAllowed Audit = Unit {0}

-- the words are those of this command
abbrev pub AreWordsOf : List (List ℕ) → Word → Type 0
AreWordsOf words word = (words ≡ words_of word) × IsAllowed word

-- the words are those of no command
abbrev pub IsNoCommand : List (List ℕ) → Type 0
IsNoCommand words = (word : Word) → AreWordsOf words word → ⊥

-- what is found is the command that is written, or nothing where none is
abbrev pub IsFound : List (List ℕ) → Option Word → Type 0
IsFound words found = MatchOption found (IsNoCommand words) (AreWordsOf words)

-- the text is that of this number, which is at most so great
abbrev pub IsNumberText : List ℕ → ℕ → ℕ → Type 0
IsNumberText text most n = (text ≡ decimal n) × (n ≤ most)

-- what is found is the number of which this is the text, or nothing where it is that of none
abbrev pub IsNumberFound : List ℕ → ℕ → Option ℕ → Type 0
IsNumberFound text most found =
    MatchOption found ((n : ℕ) → IsNumberText text most n → ⊥) (IsNumberText text most)

-- the bytes begin with no plus (43), and with 0 (48) only where this is all
abbrev pub IsPlain : List ℕ → Type 0
IsPlain bytes = (slice_index bytes 0 ≢ 43) × (slice_index bytes 0 ≡ 48 → length bytes ≡ 1)
