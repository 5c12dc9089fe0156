-- What each kind of writing does to the files, and what a crash may leave meanwhile.
use Rattle.std.specs.Prelude.{◌≡◌, ◌⊎◌, ◌+◌, ◌==◌, if◌then◌else◌, ℕ, Bool, true, List, Option, Some, None, Result, OnOk}
use Rattle.outside_world.specs.declared.world.FileName.{FileName}
use Rattle.outside_world.specs.declared.world.FileName.TheVariants.{A, B}
use Rattle.outside_world.specs.View.{View}
use Rattle.outside_world.specs.Since.{TakesNone, LeavesOnly}
use Rattle.realm_pages.specs.Generations.{gate_of}
use Rattle.realm_files.specs.Meaning.{Meaning}
use Rattle.realm_files.specs.Stands.{Files, numbered}
use Rattle.realm_files.specs.Keeping.{Kept, at_gate, RestsAt, AllRest}
use Rattle.realm_files.specs.declared.place.Place.{Place}

-- ---- places

-- the same file, version and generation, with the next gate there
abbrev pub with_gate : Place → ℕ → Place
with_gate place next =
    record { file = place.file; version = place.version; generation = place.generation; next = next }

-- the other of the two files
abbrev pub other_file : FileName → FileName
other_file A = B
other_file B = A

-- the other one than the newest; file A where none counts
abbrev pub next_file : Option Place → FileName
next_file None = A
next_file (Some place) = other_file place.file

-- the number of the newest generation; 0 where no file counts
abbrev pub generation_of : Option Place → ℕ
generation_of None = 0
generation_of (Some place) = place.generation

-- the number of the next generation
abbrev pub next_generation : Option Place → ℕ
next_generation place = generation_of place + 1

-- the version that each generation is written in
abbrev pub version_now : ℕ
version_now = 2

-- where the first record of the next generation will stand, if that has this payload
abbrev pub renewed_place : Option Place → List ℕ → Place
renewed_place place payload = record {
  file = next_file place;
  version = version_now;
  generation = next_generation place;
  next = gate_of (numbered version_now (next_generation place) payload);
}

-- The next record comes behind a generation of its own: no file counts yet, or the newest is of the first version.
abbrev pub wants_generation : Option Place → Bool
wants_generation None = true
wants_generation (Some place) = place.version == 1

-- where the next record's gate stands, or will stand behind a generation with this payload
abbrev pub gate_place : Option Place → List ℕ → Place
gate_place None payload = renewed_place None payload
gate_place (Some place) payload = if place.version == 1 then renewed_place (Some place) payload else place

-- and that of what is kept, whose payload such a generation has
abbrev pub place_for : {S : Type 0} → Meaning S → Kept S → Place
place_for m kept = gate_place kept.place (m.payload kept.state)

-- ---- a run of calls

-- each pair of files that a crash may leave now is so
abbrev pub InEachImage : View → (Files → Type 0) → Type 0
InEachImage v AreSo = (files : Files) → ((f : FileName) → v.image f (files f)) → AreSo files

-- A run of calls that takes and gives nothing: each crash since leaves such files, and so does a crash now.
pub record LeavesFiles (old new : View) (AreSo : Files → Type 0) : Type 0 where
  pub takes : TakesNone old new
  pub given : new.given ≡ old.given
  pub crash : LeavesOnly old new (λ a. (a.given ≡ old.given) × AreSo a.files)
  pub now : InEachImage new AreSo

-- ---- the next generation

-- meanwhile the files rest at the first or at the second, whether or not the next gate was there
abbrev pub IsReplaced : {S : Type 0} → Meaning S → View → View → Kept S → Kept S → Type 0
IsReplaced m old new start after = LeavesFiles old new (λ files. RestsAt m start files ⊎ RestsAt m after files)

-- the next generation was put on the other file, and all rests at it; or the disk failed before it was whole
pub record Renewed {S : Type 0} {T E : Type 0} (m : Meaning S) (old new : View) (start after : Kept S)
    (result : Result T E) : Type 0 where
  pub replaced : IsReplaced m old new start after
  pub rest : OnOk result (AllRest m after new)

-- ---- the gate before a record

-- The files rest at what is kept; or at its next gate, once that is there: behind a generation of its own where one is wanted.
abbrev pub RestsFrom : {S : Type 0} → Meaning S → Kept S → Files → Type 0
RestsFrom m kept files = RestsAt m kept files ⊎ RestsAt m (at_gate kept.state (place_for m kept)) files

-- The gate at this place is there, closed: a generation was put before it, its byte was added, or nothing was to be done;
-- or the disk failed before that. Where the gate's byte was missing, nothing is said of what crashes leave meanwhile.
pub record Readied {S : Type 0} {E : Type 0} (m : Meaning S) (old new : View) (kept : Kept S) (place : Place)
    (result : Result Unit E) : Type 0 where
  pub leaves : LeavesFiles old new (λ files. kept.has_gate ≡ true → RestsFrom m kept files)
  pub rest : OnOk result (AllRest m (at_gate kept.state place) new)

-- ---- a record

-- where the next gate is there, the files rest at the first, or behind the record at the second
abbrev pub RestsBetween : {S : Type 0} → Meaning S → Kept S → Kept S → Files → Type 0
RestsBetween m start after files = start.has_gate ≡ true → RestsFrom m start files ⊎ RestsAt m after files

-- a change leads from the first of these to the second: so it is while it is written, and now
abbrev pub IsWritten : {S : Type 0} → Meaning S → View → View → Kept S → Kept S → Type 0
IsWritten m old new start after = LeavesFiles old new (RestsBetween m start after)

-- its record is stable, and the next gate is there; or the disk failed before that
pub record Committed {S : Type 0} {E : Type 0} (m : Meaning S) (old new : View) (start after : Kept S)
    (result : Result ℕ E) : Type 0 where
  pub written : IsWritten m old new start after
  pub rest : OnOk result (AllRest m after new)
