-- What the two files of a store stand for: a payload is that of a valid state, and records are changes.
use Rattle.std.specs.Prelude.{◌≡◌, ℕ, List, [], Option}
use Rattle.outside_world.specs.declared.world.FileName.{FileName}
use Rattle.record_codec.specs.declared.snapshot.Snapshot.{Snapshot}
use Rattle.record_codec.specs.Payload.{IsSnapshot, payload}
use Rattle.realm_insert.specs.State.{State, empty_state}
use Rattle.realm_insert.specs.Snapshots.{state_of, payload_of, IsValidState}
use Rattle.realm_files.specs.Meaning.{Meaning}
use Rattle.realm_files.specs.Stands.{Files}
use Rattle.realm_files.specs.Stands as files
use Rattle.realm_files.specs.declared.place.Place.{Place}
use Rattle.realm_store.specs.Leading.{Leads}

-- the bytes are the payload of a snapshot that keeps this state, which is valid
pub record Opens (bytes : List ℕ) (state : State) : Type 0 where
  pub snapshot : Snapshot
  pub is_snapshot : IsSnapshot snapshot
  pub is_payload : bytes ≡ payload snapshot
  pub state_is : state ≡ state_of snapshot
  pub valid : IsValidState (state_of snapshot)

-- what payloads and records mean to a store
abbrev pub meaning : Meaning State
meaning = record { empty = empty_state; payload = payload_of; opens = Opens; leads = Leads }

-- files stand for a state, with the place of the next gate; where none counts, for the empty one
abbrev pub StandsAt : Files → State → Option Place → Type 0
StandsAt = files.StandsAt meaning

-- files stand for a state
abbrev pub StandsFor : Files → State → Type 0
StandsFor = files.StandsFor meaning

-- neither file has a byte
abbrev pub AreEmpty : Files → Type 0
AreEmpty files = (f : FileName) → files f ≡ []
