-- What is opened of the files when a store is started. No public clause cites this file.
use Rattle.std.specs.Prelude.{◌≡◌, ◌≢◌, ◌↔◌, ◌+◌, ◌<◌, ◌≤◌, ℕ, true, List, length, Option, Some, None, Result, Err, IfOk}
use Rattle.outside_world.specs.View.{View, AllStable}
use Rattle.record_codec.specs.declared.record.Record.{Record}
use Rattle.realm_journal.specs.Reading.{OnlyAsks}
use Rattle.realm_insert.specs.State.{State, empty_state}
use Rattle.realm_pages.specs.Generations.{gate_of}
use Rattle.realm_pages.specs.Finding.{HoldsNewest}
use Rattle.realm_pages.specs.declared.damage.Damage.{Damage}
use Rattle.realm_pages.specs.declared.damage.Damage.TheVariants.{BadRecord}
use Rattle.realm_files.specs.Rows.{AreRecords}
use Rattle.realm_files.specs.Stands.{Files, NoneCounts, generation_at}
use Rattle.realm_files.specs.Damages.{EndsBadly}
use Rattle.realm_files.specs.Writing.{with_gate}
use Rattle.realm_files.specs.Keeping.{KnowsGate}
use Rattle.realm_files.specs.declared.place.Place.{Place}
use Rattle.realm_store.specs.declared.opening.Base.{Base}
use Rattle.realm_store.specs.declared.opening.Opened.{Opened}
use Rattle.realm_store.specs.Stands.{meaning, Opens}
use Rattle.realm_store.specs.Keeping.{Kept, RestsAt}
use Rattle.realm_store.specs.Journals.{StandsFrom}
use Rattle.realm_store.specs.Damages.{IsDamaged}
use Rattle.realm_pages.specs.declared.error.PagesError.{PagesError as StartError}
use Rattle.realm_pages.specs.declared.error.PagesError.TheVariants.{Disk, Damaged}

-- ---- the payload of the newest file

-- the file of this place is the newest, its payload opens the state, and the place is that of the gate behind it
pub record IsBaseOn (files : Files) (state : State) (place : Place) : Type 0 where
  pub payload : List ℕ
  pub newest : HoldsNewest files place.file (generation_at place payload)
  pub gate : place.next ≡ gate_of (generation_at place payload)
  pub opens : Opens payload state

-- where no file counts, it is the empty state
abbrev pub IsBase : Files → State → Option Place → Type 0
IsBase files state None = NoneCounts files × (state ≡ empty_state)
IsBase files state (Some place) = IsBaseOn files state place

-- The files were read, and nothing else happened. The state is that of the newest file's payload, or they have the damage that is
-- told; or the disk failed or memory ran out.
pub record BaseFound (old new : View) (result : Result Base StartError) : Type 0 where
  pub asks : OnlyAsks old new
  pub base : IfOk result (λ base. IsBase old.reads base.engine.state base.place)
  pub damaged : (d : Damage) → result ≡ Err (Damaged d) → IsDamaged d old.reads

-- Both files were synced before.
pub record BaseOpened (old new : View) (result : Result Base StartError) : Type 0 where
  pub found : BaseFound old new result
  pub stable : result ≢ Err Disk → AllStable new

-- ---- the records behind it

-- these records of the file, from the gate of the place on, lead from the state to what is kept
pub record LeadsTo (file : List ℕ) (start : State) (place : Place) (records : List Record) (kept : Kept) : Type 0 where
  pub next : ℕ
  pub lead : AreRecords meaning start records place.next file kept.state next
  pub place_is : kept.place ≡ Some (with_gate place next)
  pub within : next ≤ length file
  pub gate : (kept.has_gate ≡ true) ↔ (next < length file)

-- a record behind the gate of the place is bad
pub record IsBadRow (file : List ℕ) (start : State) (place : Place) (damage : Damage) : Type 0 where
  pub records : List Record
  pub ends : EndsBadly meaning start records place.next file
  pub is : damage ≡ BadRecord place.file (length records + 1)

-- the records behind the gate of the place lead to what is kept, or one of them is bad; or memory ran out
pub record OpensRow (file : List ℕ) (start : State) (place : Place) (result : Result Opened StartError) : Type 0 where
  pub leads : IfOk result (λ opened. LeadsTo file start place opened.records opened.store.kept)
  pub damaged : (d : Damage) → result ≡ Err (Damaged d) → IsBadRow file start place d

-- what is kept is what the files stand for, by these records from this state on
pub record IsReadFrom (files : Files) (start : State) (records : List Record) (kept : Kept) : Type 0 where
  pub journal : StandsFrom files kept.state kept.place start records
  pub rests : RestsAt kept files
  pub knows : KnowsGate kept files

-- The files were read, and nothing else happened. What is kept is what they stand for from this state on, or a record is bad, as
-- is told; or the disk failed or memory ran out.
pub record RecordsOpened (old new : View) (start : State) (result : Result Opened StartError) : Type 0 where
  pub asks : OnlyAsks old new
  pub read : IfOk result (λ opened. IsReadFrom old.reads start opened.records opened.store.kept)
  pub damaged : (d : Damage) → result ≡ Err (Damaged d) → IsDamaged d old.reads
