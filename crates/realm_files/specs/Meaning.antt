-- What payloads and records mean, for states of any kind.
use Rattle.std.specs.Prelude.{ℕ, List}
use Rattle.record_codec.specs.declared.record.Record.{Record}

-- the state of files of which none counts, the payload that is written for a state, the states that a payload opens, and where a
-- record leads from a state
pub record Meaning (S : Type 0) : Type 1 where
  pub empty : S
  pub payload : S → List ℕ
  pub opens : List ℕ → S → Type 0
  pub leads : S → Record → S → Type 0
