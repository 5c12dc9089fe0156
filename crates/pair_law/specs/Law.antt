-- What holds of a primary and its follower at each moment, and of a follower over any lines.
use Rattle.std.specs.Prelude.{◌≡◌, ◌≤◌, ℕ, List, ◌∷◌, All, Contains}
use Rattle.record_codec.specs.declared.record.Record.{Record}
use Rattle.realm_insert.specs.State.{State}
use Rattle.realm_store.specs.Keeping.{Kept}
use Rattle.standby_core.specs.declared.frame.Frame.{Frame}
use Rattle.standby_core.specs.Frames.{IsLineOf}
use Rattle.pair_law.specs.History.{IsStateOf, IsFrameOf}
use Rattle.pair_law.specs.Following.{Turn, NoRecord, IsStartedAgain, acks_of, states_of, replies}
use Rattle.pair_law.specs.Pair.{Pair}

-- the follower's state is a state of the primary's history, with at least as many changes as each acknowledgement says
pub record IsFollowing (p : Pair) : Type 0 where
  pub of_history : IsStateOf p.records p.follower.state
  pub acks : All (λ m. m ≤ p.follower.state.changes) p.acks
  pub heard : All (λ m. m ≤ p.follower.state.changes) p.heard

-- the line is that of a frame of the history, or of no frame at all
pub record IsSomeLineOf (records : List Record) (turn : Turn) : Type 0 where
  pub each : (f : Frame) → IsLineOf f turn.line → IsFrameOf records f

-- the states which the follower was in: the first, and the one behind each frame that was applied
abbrev pub states_in : Kept → List Turn → List State
states_in start turns = start.state ∷ states_of turns

-- m is the number of changes of a state of the history which the follower was in, and in the end there are no fewer
pub record IsKeptIn (records : List Record) (were : List State) (end : Kept) (m : ℕ) : Type 0 where
  pub state : State
  pub of_history : IsStateOf records state
  pub was_in : Contains were state
  pub number : state.changes ≡ m
  pub no_fewer : m ≤ end.state.changes

-- the follower ends in a state of the history, with no fewer changes, made none but its states, found no record that leads
-- nowhere, and each number that it acknowledged is that of a state which it was in
pub record EndsIn (records : List Record) (start : Kept) (turns : List Turn) (end : Kept) : Type 0 where
  pub of_history : IsStateOf records end.state
  pub no_fewer : start.state.changes ≤ end.state.changes
  pub states : All (IsStateOf records) (states_of turns)
  pub no_misfit : All (λ (turn : Turn). turn.outcome ≡ NoRecord → ⊥) turns
  pub acks : All (IsKeptIn records (states_in start turns) end) (acks_of turns)

-- two runs give the same replies, make the same states, and end with the same state at the same place
pub record IsSameRun (turns also : List Turn) (end other : Kept) : Type 0 where
  pub same_replies : replies also ≡ replies turns
  pub same_states : states_of also ≡ states_of turns
  pub same_end : IsStartedAgain end other
