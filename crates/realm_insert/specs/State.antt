-- What the store holds.
use Rattle.std.specs.Prelude.{◌≡◌, ℕ, ◌+◌, ◌-◌, ◌<◌, ◌≤◌, min, Bool, false, List, [], length, drop, get_or, All}
use Rattle.grid_base.specs.Drawing.{Drawing}
use Rattle.grid_base.specs.declared.kinds.Step.{Step}
use Rattle.value_table.specs.Table.{NamedValues}

-- the trace of the change with this number
pub record KeptTrace : Type 0 where
  pub number : ℕ
  pub steps : List Step

abbrev pub kept_trace : ℕ → List Step → KeptTrace
kept_trace number steps = record { number = number; steps = steps }

-- what is drawn, the id to come, what has a name, how many changes were accepted, and the latest traces
pub record State : Type 0 where
  pub drawing : Drawing
  pub next_id : ℕ
  pub values : NamedValues
  pub changes : ℕ
  pub traces : List KeptTrace

-- nothing is drawn, the next id is 1 and no change was accepted
abbrev pub empty_state : State
empty_state = record { drawing = record { points = []; originals = [] }; next_id = 1; values = []; changes = 0; traces = [] }

-- each id of d is at least 1 and below n
abbrev pub HasIdsBelow : ℕ → Drawing → Type 0
HasIdsBelow n d = All (λ o. (1 ≤ o.id) × (o.id < n)) d.originals

-- the traces are those of the last 16 of so many changes, of all where these are fewer, in the order of their numbers
pub record AreLatest (changes : ℕ) (traces : List KeptTrace) : Type 0 where
  pub count : length traces ≡ min changes 16
  pub numbers : (i : ℕ) (other : KeptTrace) → i < length traces
      → (get_or traces i other).number + length traces ≡ changes + i + 1

-- the last 16 of the traces
abbrev pub latest : List KeptTrace → List KeptTrace
latest traces = drop (length traces - 16) traces

-- an engine: its state, and whether it is spent, so that nothing is said of its state
pub record SpendableState : Type 0 where
  pub state : State
  pub spent : Bool

abbrev pub fresh_state : SpendableState
fresh_state = record { state = empty_state; spent = false }
