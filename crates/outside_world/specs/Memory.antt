-- A world in memory, and what each call does to it.
use Rattle.std.specs.Prelude.{◌≡◌, ◌⊎◌, ◌+◌, ◌-◌, ◌^◌, ℕ, Bool, List, length, take, drop, min}
use Rattle.std.specs.Prelude.{nat_lt, IsTrue, Result, IsErr, IfOk, OnOk, OnErr}
use Rattle.std.specs.Ordering.{nat_cmp}
use Rattle.std.specs.FinSet as set
use Rattle.outside_world.specs.declared.world.FileName.{FileName}
use Rattle.outside_world.specs.declared.world.Failed.{Failed}
use Rattle.outside_world.specs.View.{View}
use Rattle.outside_world.specs.Events.{Event, Taken, Given, Written, Tried, Flushed, Looked}
use Rattle.outside_world.specs.Log.{Log, empty_log, with_event, log_view, now_of}

-- a world in memory
pub record Memory : Type 0 where
  -- what it began with, and what its calls did
  pub log : Log
  -- the numbers of the calls that fail, from 1
  pub failing : set.FinSet nat_cmp
  -- how many bytes a take or a give moves at most
  pub piece : ℕ
  -- how often a take, a give, and a call on a file have failed
  pub source_faults : ℕ
  pub sink_faults : ℕ
  pub disk_faults : ℕ

-- what it tells
abbrev pub memory_view : Memory → View
memory_view m = log_view m.log

-- whether a call has failed: not all counts are 0
abbrev pub has_failed : Memory → Bool
has_failed m = nat_lt 0 (m.source_faults + m.sink_faults + m.disk_faults)

-- a world that has had no call, and moves so many bytes at most
abbrev pub fresh_in_pieces : (input a b failing : List ℕ) → ℕ → Memory
fresh_in_pieces input a b failing piece = record {
  log = empty_log input a b;
  failing = set.from_list failing;
  piece = piece;
  source_faults = 0;
  sink_faults = 0;
  disk_faults = 0;
}

-- a world that has had no call, and moves more bytes than any list in memory has
abbrev pub fresh : (input a b failing : List ℕ) → Memory
fresh input a b failing = fresh_in_pieces input a b failing (2 ^ 64 - 1)

-- the next call is one of those that fail
abbrev pub NextFails : Memory → Type 0
NextFails m = IsTrue (set.contains m.failing (length m.log.calls + 1))

-- the same world, one call later
abbrev pub with_call : Memory → Event → Memory
with_call m event = record m { log = with_event m.log event }

-- one more than a count that is kept in a u64, and stays at its last value
abbrev pub one_more : ℕ → ℕ
one_more count = min (count + 1) (2 ^ 64 - 1)

-- the same world, one fault of a take later
abbrev pub with_source_fault : Memory → Memory
with_source_fault m = record m { source_faults = one_more m.source_faults }

-- the same world, one fault of a give later
abbrev pub with_sink_fault : Memory → Memory
with_sink_fault m = record m { sink_faults = one_more m.sink_faults }

-- the same world, one fault of a call on a file later
abbrev pub with_disk_fault : Memory → Memory
with_disk_fault m = record m { disk_faults = one_more m.disk_faults }

-- A call fails where its number is among those that fail. Else it is done and noted, unless memory runs out.
-- One that fails counts, and where there is memory it is noted too.
pub record Notes {T : Type 0} (old new : Memory) (done failed : Event) (with_fault : Memory → Memory)
    (result : Result T Failed) : Type 0 where
  pub fails : NextFails old → IsErr result
  pub noted : OnOk result (new ≡ with_call old done)
  pub fault : OnErr result ((new ≡ with_fault old) ⊎ (new ≡ with_fault (with_call old failed)))

-- what of these bytes one call moves
abbrev pub piece_of : Memory → List ℕ → List ℕ
piece_of m bytes = take m.piece bytes

-- what of the input one take moves
abbrev pub next_piece : Memory → List ℕ
next_piece m = piece_of m (memory_view m).left

-- how many bytes a take with this much room takes
abbrev pub taken_size : Memory → ℕ → ℕ
taken_size m room = min room (length (next_piece m))

-- a take takes the next piece, as far as the buffer holds it; one that fails takes nothing
pub record Takes (old new : Memory) (buf : List ℕ) (result : Result ℕ Failed) : Type 0 where
  pub notes : Notes old new (Taken (taken_size old (length buf))) (Taken 0) with_source_fault result
  pub size : IfOk result (λ n. n ≡ taken_size old (length buf))
  pub bytes : IfOk result (λ n. take n buf ≡ take n (next_piece old))

-- a give gives a piece of the bytes; one that fails gives none
pub record Gives (old new : Memory) (bytes : List ℕ) (result : Result ℕ Failed) : Type 0 where
  pub notes : Notes old new (Given (piece_of old bytes)) Looked with_sink_fault result
  pub size : IfOk result (λ n. n ≡ length (piece_of old bytes))

-- the length of a file
pub record Sizes (old new : Memory) (file : FileName) (result : Result ℕ Failed) : Type 0 where
  pub notes : Notes old new Looked Looked with_disk_fault result
  pub size : IfOk result (λ n. n ≡ length (now_of old.log file))

-- a read reads as much as is there and the buffer holds
pub record Reads (old new : Memory) (file : FileName) (at : ℕ) (buf : List ℕ)
    (result : Result ℕ Failed) : Type 0 where
  pub notes : Notes old new Looked Looked with_disk_fault result
  pub size : IfOk result (λ n. n ≡ min (length buf) (length (drop at (now_of old.log file))))
  pub bytes : IfOk result (λ n. take n buf ≡ take n (drop at (now_of old.log file)))

-- A write writes all the bytes. One that fails leaves the file as it reads, but a crash may leave any bytes
-- in its range.
abbrev pub Writes : Memory → Memory → FileName → ℕ → List ℕ → Result Unit Failed → Type 0
Writes old new file at bytes result =
    Notes old new (Written file at bytes) (Tried file at (length bytes)) with_disk_fault result

-- a sync makes a file last; one that fails makes nothing last
abbrev pub Syncs : Memory → Memory → FileName → Result Unit Failed → Type 0
Syncs old new file result = Notes old new (Flushed file) Looked with_disk_fault result
