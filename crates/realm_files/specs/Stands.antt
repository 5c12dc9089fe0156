-- What two files stand for: the newest of them tells, by its payload and the records behind it.
use Rattle.std.specs.Prelude.{◌≡◌, ◌<◌, ◌≤◌, ℕ, List, length, Bool, true, Option, Some, None}
use Rattle.outside_world.specs.declared.world.FileName.{FileName}
use Rattle.record_codec.specs.declared.record.Record.{Record}
use Rattle.realm_pages.specs.Generations.{Generation, gate_of}
use Rattle.realm_pages.specs.Files.{Counts}
use Rattle.realm_pages.specs.Finding.{HoldsNewest}
use Rattle.realm_files.specs.Meaning.{Meaning}
use Rattle.realm_files.specs.Rows.{AreRecords}
use Rattle.realm_files.specs.declared.place.Place.{Place}

-- the bytes of both files
abbrev pub Files : Type 0
Files = FileName → List ℕ

-- a payload, the version of its format, and the number of its generation
abbrev pub numbered : ℕ → ℕ → List ℕ → Generation
numbered version number payload = record { version = version; number = number; payload = payload }

-- the generation of this place, with this payload
abbrev pub generation_at : Place → List ℕ → Generation
generation_at place payload = numbered place.version place.generation payload

-- The file of this place is the newest, with its generation. Its payload opens a state, and its records lead from there
-- to this one, up to the gate of this place, which is closed.
pub record StandsOn {S : Type 0} (m : Meaning S) (files : Files) (state : S) (place : Place) : Type 0 where
  pub payload : List ℕ
  pub newest : HoldsNewest files place.file (generation_at place payload)
  pub first : S
  pub opens : m.opens payload first
  pub records : List Record
  pub lead : AreRecords m first records (gate_of (generation_at place payload)) (files place.file) state place.next

-- neither file counts
abbrev pub NoneCounts : Files → Type 0
NoneCounts files = (f : FileName) → Counts (files f) → ⊥

-- files stand for a state, with the place of the next gate; where none counts, for the empty one
abbrev pub StandsAt : {S : Type 0} → Meaning S → Files → S → Option Place → Type 0
StandsAt m files state None = NoneCounts files × (state ≡ m.empty)
StandsAt m files state (Some place) = StandsOn m files state place

-- files stand for a state
abbrev pub StandsFor : {S : Type 0} → Meaning S → Files → S → Type 0
StandsFor m files state = (place : Option Place) × StandsAt m files state place

-- the byte of the next gate is within its file, or the gate is that file's end
abbrev pub ReachesTo : Files → Option Place → Bool → Type 0
ReachesTo files None has_gate = has_gate ≡ true
ReachesTo files (Some place) has_gate =
    (place.next ≤ length (files place.file)) × (has_gate ≡ true → place.next < length (files place.file))
