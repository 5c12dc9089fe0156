-- Which frames a primary sends.
use Rattle.std.specs.Prelude.{◌≡◌, ℕ, List, take, drop}
use Rattle.record_codec.specs.declared.record.Record.{Record}
use Rattle.record_codec.specs.declared.snapshot.Snapshot.{Snapshot}
use Rattle.realm_insert.specs.State.{State, empty_state}
use Rattle.realm_insert.specs.Snapshots.{state_of}
use Rattle.realm_store.specs.Replaying.{LeadOn}
use Rattle.standby_core.specs.declared.frame.Frame.{Frame}
use Rattle.standby_core.specs.Shipping.{AreSent}

-- These frames are sent to a follower that has so many changes, where the newest file begins with the state after the first
-- records of the history, this many, and has the others.
pub record IsSent (records : List Record) (now : State) (first have : ℕ) (frames : List Frame) : Type 0 where
  pub base : State
  pub is_base : LeadOn empty_state (take first records) base
  pub snapshot : Snapshot
  pub is_present : state_of snapshot ≡ now
  pub are_sent : AreSent base.changes (drop first records) snapshot have frames
