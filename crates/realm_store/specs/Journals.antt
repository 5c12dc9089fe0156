-- The journal of the newest file: the state of its payload, and the records behind that.
use Rattle.std.specs.Prelude.{◌≡◌, ℕ, List, [], Option, Some, None, Result, Ok, Err}
use Rattle.record_codec.specs.declared.record.Record.{Record}
use Rattle.record_codec.specs.declared.snapshot.Snapshot.{Snapshot}
use Rattle.realm_insert.specs.State.{State, empty_state}
use Rattle.realm_insert.specs.Snapshots.{state_of}
use Rattle.realm_pages.specs.Generations.{gate_of}
use Rattle.realm_pages.specs.Finding.{HoldsNewest}
use Rattle.realm_pages.specs.declared.error.PagesError.{PagesError as StartError}
use Rattle.realm_files.specs.Rows.{AreRecords}
use Rattle.realm_files.specs.Stands.{Files, NoneCounts, generation_at}
use Rattle.realm_files.specs.declared.place.Place.{Place}
use Rattle.realm_store.specs.declared.starting.Started.{Started}
use Rattle.realm_store.specs.Stands.{meaning, Opens}
use Rattle.realm_store.specs.Keeping.{Kept, SpendableKept}

-- The file of this place is the newest. Its payload opens the first state, and these records lead from there to the other, up to
-- the gate of the place, which is closed.
pub record StandsBy (files : Files) (state : State) (place : Place) (first : State) (records : List Record) : Type 0 where
  pub payload : List ℕ
  pub newest : HoldsNewest files place.file (generation_at place payload)
  pub opens : Opens payload first
  pub lead : AreRecords meaning first records (gate_of (generation_at place payload)) (files place.file) state place.next

-- and where no file counts, both states are the empty one, and there is no record
abbrev pub StandsFrom : Files → State → Option Place → State → List Record → Type 0
StandsFrom files state None first records =
    NoneCounts files × (first ≡ empty_state) × (state ≡ empty_state) × (records ≡ [])
StandsFrom files state (Some place) first records = StandsBy files state place first records

-- what is kept of the files is what they stand for by these records, from the state of the base on
abbrev pub HasJournal : Files → Kept → Snapshot → List Record → Type 0
HasJournal files kept base records = StandsFrom files kept.state kept.place (state_of base) records

-- what came of a start that keeps the journal, seen as that of a start alone
abbrev pub without_journal : Result Started StartError → Result SpendableKept StartError
without_journal (Ok started) = Ok started.store
without_journal (Err error) = Err error
