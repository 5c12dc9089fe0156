-- What file A alone stood for before there was a second file: a first generation without pages, and records behind it.
use Rattle.std.specs.Prelude.{◌≡◌, ℕ, List, [], Option, Some, None}
use Rattle.outside_world.specs.declared.world.FileName.TheVariants.{A, B}
use Rattle.record_codec.specs.declared.record.Record.{Record}
use Rattle.record_codec.specs.declared.header.Header.{Header}
use Rattle.record_codec.specs.Heads.{header_text}
use Rattle.realm_journal.specs.Gates.{IsWrittenAt}
use Rattle.realm_pages.specs.Files.{Counts}
use Rattle.realm_files.specs.Meaning.{Meaning}
use Rattle.realm_files.specs.Rows.{AreRecords}
use Rattle.realm_files.specs.Stands.{Files}
use Rattle.realm_files.specs.declared.place.Place.{Place}

-- the head of the first generation, which has no page, by the first version of the format
abbrev pub first_head : Header
first_head = record { version = 1; generation = 1; pages = 0; length = 0 }

-- a file that counts, with this head, and its records behind it
pub record HoldsRecords {S : Type 0} (m : Meaning S) (file : List ℕ) (state : S) (next : ℕ) : Type 0 where
  pub counts : Counts file
  pub has_head : IsWrittenAt 1 (header_text first_head) file
  pub records : List Record
  pub lead : AreRecords m m.empty records 4096 file state next

-- a file stood for a state, with the place of its next gate; where it doesn't count, for the empty one
abbrev pub StoodAt : {S : Type 0} → Meaning S → List ℕ → S → Option ℕ → Type 0
StoodAt m file state None = (Counts file → ⊥) × (state ≡ m.empty)
StoodAt m file state (Some next) = HoldsRecords m file state next

-- this file A, and an empty file B
abbrev pub alone : List ℕ → Files
alone file A = file
alone file B = []

-- the place in file A, of the first generation
abbrev pub place_alone : Option ℕ → Option Place
place_alone None = None
place_alone (Some next) = Some (record { file = A; version = 1; generation = 1; next = next })
