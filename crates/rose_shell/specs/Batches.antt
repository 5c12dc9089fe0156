-- Lines in batches: `batch N` is followed by N lines, or fewer at the end of the input, that are answered together.
use Rattle.std.specs.Prelude.{◌<◌, ◌≤◌, ℕ, List, [], ◌∷◌, length, Option, Some, None, nat_lt, if◌then◌else◌}
use Rattle.line_grammar.specs.Lines.{Says}
use Rattle.line_grammar.specs.declared.command.Command.TheVariants as commands
use Rattle.rose_shell.specs.Lines.{longest_line}

-- a batch has from 1 to 64 lines
abbrev pub IsInRange : ℕ → Type 0
IsInRange size = (0 < size) × (size ≤ 64)

-- the line begins a batch of so many lines
pub record OpensBatch (line : List ℕ) (size : ℕ) : Type 0 where
  pub short : length line ≤ longest_line
  pub says : Says line (commands.Batch size)
  pub in_range : IsInRange size

-- the line begins no batch
abbrev pub OpensNone : List ℕ → Type 0
OpensNone line = (size : ℕ) → OpensBatch line size → ⊥

-- these lines wait for an answer: none, or those of a batch that lacks some still
abbrev pub AreHeld : List (List ℕ) → Type 0
AreHeld [] = Unit {0}
AreHeld (line ∷ batch) = (size : ℕ) × OpensBatch line size × (length batch < size)

-- what is kept of a line in a batch: none of a line that is too long
abbrev pub heard : List ℕ → Option (List ℕ)
heard line = if nat_lt longest_line (length line) then None else Some line
