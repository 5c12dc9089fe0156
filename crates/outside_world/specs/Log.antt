-- The log of a world in memory: what it began with, and what its calls did.
use Rattle.std.specs.Prelude.{◌≤◌, ◌<◌, ◌+◌, max, ℕ, List, [], ◌∷◌, ◌++◌, length, take, replicate}
use Rattle.outside_world.specs.declared.world.FileName.{FileName}
use Rattle.outside_world.specs.declared.world.FileName.TheVariants.{A, B}
use Rattle.outside_world.specs.declared.call_log.Room.{Room}
use Rattle.outside_world.specs.declared.leave.Leave.{Leave}
use Rattle.outside_world.specs.declared.leave.Leave.TheVariants.{Old, New, Fill}
use Rattle.outside_world.specs.View.{View, Moment}
use Rattle.outside_world.specs.Calls.{overwritten}
use Rattle.outside_world.specs.Events.{Event, given_by, size_written_by}
use Rattle.outside_world.specs.Disk.{Range}
use Rattle.outside_world.specs.Files.{FileState, file_after}
use Rattle.outside_world.specs.History.{view_after}

-- a log of calls
pub record Log : Type 0 where
  -- the input, with what was taken of it
  pub input : List ℕ
  -- what each file held at the beginning
  pub a : List ℕ
  pub b : List ℕ
  -- what each call did, the first one first
  pub calls : List Event
  -- the room that was made for it
  pub room : Room

-- what a file held at the beginning
abbrev pub first_of : Log → FileName → List ℕ
first_of log A = log.a
first_of log B = log.b

-- what is told by it
abbrev pub log_view : Log → View
log_view log = view_after log.input (first_of log) log.calls

-- what a file reads as
abbrev pub now_of : Log → FileName → List ℕ
now_of log f = (log_view log).reads f

-- no room
abbrev pub no_room : Room
no_room = record { calls = 0; output = 0; a = 0; b = 0; written = 0 }

-- a log of no call
abbrev pub empty_log : (input a b : List ℕ) → Log
empty_log input a b = record { input = input; a = a; b = b; calls = []; room = no_room }

-- the same log, with this room
abbrev pub with_room : Log → Room → Log
with_room log room = record log { room = room }

-- how many bytes of a file there is room for
abbrev pub file_room : Log → FileName → ℕ
file_room log A = log.room.a
file_room log B = log.room.b

-- a call more fits
abbrev pub FitsCall : Log → Type 0
FitsCall log = length log.calls < log.room.calls

-- a give of so many bytes fits
pub record FitsGive (log : Log) (n : ℕ) : Type 0 where
  pub call : FitsCall log
  pub output : length (given_by log.calls) + n ≤ log.room.output

-- a write of so many bytes fits
pub record FitsWrite (log : Log) (f : FileName) (at n : ℕ) : Type 0 where
  pub call : FitsCall log
  pub written : size_written_by log.calls + n ≤ log.room.written
  pub file : max (length (now_of log f)) (at + n) ≤ file_room log f

-- the same log, one call later
abbrev pub with_event : Log → Event → Log
with_event log event = record log { calls = log.calls ++ event ∷ [] }

-- a file with this byte in all of these ranges
abbrev pub filled : ℕ → List ℕ → List Range → List ℕ
filled byte base [] = base
filled byte base (range ∷ older) =
    overwritten range.from (replicate range.size byte) (filled byte base older)

-- a byte in all ranges that were written since the last sync reaches as far as the file does
abbrev pub Covers : FileState → Type 0
Covers s = (byte : ℕ) → length s.now ≤ length (filled byte s.base s.pending)

-- The image that is asked for: what the file held at its last sync, what it reads as, or a byte in each range
-- that was written since the last sync.
abbrev pub left_by : Leave → FileState → List ℕ
left_by Old s = s.base
left_by New s = s.now
left_by (Fill byte) s = filled byte s.base s.pending

-- a file as it was after the first calls of a log
abbrev pub file_then : Log → ℕ → FileName → FileState
file_then log moment f = file_after f (first_of log f) (take moment log.calls)

-- a crash at this moment, which left these two files
abbrev pub crash_at : Log → ℕ → List ℕ → List ℕ → Moment
crash_at log moment a b = record {
  given = given_by (take moment log.calls);
  files = λ f. first_of (record log { a = a; b = b }) f;
}
