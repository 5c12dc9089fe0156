-- What the writing of a change and of a generation does to the files, and what a crash may leave meanwhile.
use Rattle.std.specs.Prelude.{Result, OnOk}
use Rattle.outside_world.specs.View.{View}
use Rattle.realm_journal.specs.declared.error.JournalError.{JournalError}
use Rattle.realm_files.specs.declared.place.Place.{Place}
use Rattle.realm_files.specs.Writing as files
use Rattle.realm_store.specs.Stands.{meaning}
use Rattle.realm_store.specs.Keeping.{Kept, AllRest}

-- the gate at this place is there, closed; or the disk failed before that
abbrev pub Readied : View → View → Kept → Place → Result Unit JournalError → Type 0
Readied = files.Readied meaning

-- While a change leads from the first of these to the second, each crash leaves files that rest at the first, at its next gate,
-- or at the second, where the next gate was there; and so does a crash now.
abbrev pub IsWritten : View → View → Kept → Kept → Type 0
IsWritten = files.IsWritten meaning

-- the record of a change was written, and all rests behind it; or the disk failed meanwhile
pub record Keeps (old new : View) (start after : Kept) (result : Result Unit JournalError) : Type 0 where
  pub written : IsWritten old new start after
  pub rest : OnOk result (AllRest after new)

-- the next generation was put on the other file, or the disk failed before it was whole
abbrev pub Renewed : {T : Type 0} → View → View → Kept → Kept → Result T JournalError → Type 0
Renewed old new start after result = files.Renewed meaning old new start after result

-- while the next generation leads from the first of these to the second, each crash leaves files that rest at one of them, and
-- so does a crash now
abbrev pub IsReplaced : View → View → Kept → Kept → Type 0
IsReplaced = files.IsReplaced meaning
