-- Records that are read from a file one after another: a closed gate ends them, or an open one without a record.
use Rattle.std.specs.Prelude.{◌≡◌, ◌+◌, ◌≤◌, ℕ, Bool, true, false, List, [], ◌∷◌, length, drop, Result, IfOk}
use Rattle.outside_world.specs.declared.world.FileName.{FileName}
use Rattle.outside_world.specs.View.{View}
use Rattle.record_codec.specs.declared.record.Record.{Record}
use Rattle.record_codec.specs.Fitting.{IsRecord, BeginsWith}
use Rattle.record_codec.specs.Spelling.{record_text}
use Rattle.realm_journal.specs.declared.error.ScanError.{ScanError}
use Rattle.realm_journal.specs.declared.records.NextRecord.{NextRecord}
use Rattle.realm_journal.specs.declared.records.NextRecord.TheVariants as next
use Rattle.realm_journal.specs.declared.records.Scan.{Scan}
use Rattle.realm_journal.specs.Gates.{open_gate, IsWrittenAt, IsOpenAt, IsClosedAt}
use Rattle.realm_journal.specs.Reading.{OnlyAsks}

-- from the gate at a place on these records stand, each behind an open gate, up to the gate at another
abbrev pub IsScan : List ℕ → ℕ → List Record → ℕ → Type 0
IsScan file at [] end = end ≡ at
IsScan file at (r ∷ rs) end =
    IsRecord r × IsWrittenAt at (open_gate ∷ record_text r) file
    × IsScan file (at + 1 + length (record_text r)) rs end

-- these bytes begin with no record
abbrev pub BeginsWithNone : List ℕ → Type 0
BeginsWithNone bytes = (r : Record) → IsRecord r → BeginsWith bytes (record_text r) → ⊥

-- no record more stands there: the gate is closed, or it is open and no whole record stands behind it
pub record IsEnd (file : List ℕ) (end : ℕ) (bad : Bool) : Type 0 where
  pub closed : bad ≡ false → IsClosedAt end file
  pub is_bad : bad ≡ true → IsOpenAt end file × BeginsWithNone (drop (end + 1) file)

-- a record stands behind the open gate at a place, and the next gate at `end`, which the bytes reach
pub record IsRecordAt (bytes : List ℕ) (at : ℕ) (r : Record) (end : ℕ) : Type 0 where
  pub is_record : IsRecord r
  pub written : IsWrittenAt at (open_gate ∷ record_text r) bytes
  pub end_is : end ≡ at + 1 + length (record_text r)
  pub within : end ≤ length bytes

-- what stands at the gate of a place: it is closed, or open with no whole record behind it, or a record stands there
abbrev pub IsNextAt : List ℕ → ℕ → NextRecord → Type 0
IsNextAt bytes at next.Closed = IsClosedAt at bytes
IsNextAt bytes at next.Bad = IsOpenAt at bytes × BeginsWithNone (drop (at + 1) bytes)
IsNextAt bytes at (next.Record r end) = IsRecordAt bytes at r end

-- the records of a file from a place on
pub record Scans (file : List ℕ) (at : ℕ) (list : List Record) (end : ℕ) (bad : Bool) : Type 0 where
  pub records : IsScan file at list end
  pub ends : IsEnd file end bad

-- they were read, or the disk failed or memory ran out
pub record Scanned (old new : View) (file : FileName) (at : ℕ) (result : Result Scan ScanError) : Type 0 where
  pub asks : OnlyAsks old new
  pub scan : IfOk result (λ s. Scans (old.reads file) at s.list s.end s.bad)
