-- What the fields of a log stand for. The output holds the bytes of all gives in order, and beside it stand
-- those of all writes.
use Rattle.std.specs.Prelude.{◌≡◌, ◌+◌, ◌≤◌, ℕ, List, [], ◌∷◌, length, take, drop}
use Rattle.std.specs.Vec.{vec_capacity}
use Rattle.outside_world.specs.declared.world.FileName.TheVariants.{A, B}
use Rattle.outside_world.specs.declared.call_log.Call.{Call}
use Rattle.outside_world.specs.declared.call_log.Call.TheVariants.{Take, Give, Write, Try, Sync, Look}
use Rattle.outside_world.specs.declared.call_log.CallLog.TheInside.{Inside}
use Rattle.outside_world.specs.Events.{Event, Taken, Given, Written, Tried, Flushed, Looked, taken_by}
use Rattle.outside_world.specs.Files.{file_after}
use Rattle.outside_world.specs.Log.{Log}

-- what one call did, where these bytes of the output and of the writes come next
abbrev pub event_of : List ℕ → List ℕ → Call → Event
event_of output written (Take n) = Taken n
event_of output written (Give n) = Given (take n output)
event_of output written (Write file at n) = Written file at (take n written)
event_of output written (Try file at n) = Tried file at n
event_of output written (Sync file) = Flushed file
event_of output written Look = Looked

-- how many bytes a call gave
abbrev pub given_in : Call → ℕ
given_in (Give n) = n
given_in call = 0

-- how many bytes a call wrote
abbrev pub written_in : Call → ℕ
written_in (Write file at n) = n
written_in call = 0

-- what these calls did, where the output and the bytes of the writes hold what they gave and wrote
abbrev pub events_of : List ℕ → List ℕ → List Call → List Event
events_of output written [] = []
events_of output written (call ∷ calls) =
    event_of output written call
    ∷ events_of (drop (given_in call) output) (drop (written_in call) written) calls

-- how many bytes these calls gave
abbrev pub size_given : List Call → ℕ
size_given [] = 0
size_given (call ∷ calls) = given_in call + size_given calls

-- how many bytes these calls wrote
abbrev pub size_written : List Call → ℕ
size_written [] = 0
size_written (call ∷ calls) = written_in call + size_written calls

-- the log that these fields are
abbrev pub log_of : Inside → Log
log_of w = record {
  input = w.input.items;
  a = w.first_a.items;
  b = w.first_b.items;
  calls = events_of w.output.items w.written.items w.calls.items;
  room = w.room;
}

-- the fields agree
pub record Agrees (w : Inside) : Type 0 where
  -- the place in the input is what the calls took
  pub taken : w.taken ≡ taken_by (log_of w).calls
  -- which is within it
  pub within_input : w.taken ≤ length w.input.items
  -- the output is what the calls gave, and the bytes of the writes are what they wrote
  pub given : length w.output.items ≡ size_given w.calls.items
  pub written : length w.written.items ≡ size_written w.calls.items
  -- the files are what the calls made of them
  pub a_now : w.a.items ≡ (file_after A w.first_a.items (log_of w).calls).now
  -- the room is there
  pub room_calls : w.room.calls ≤ vec_capacity w.calls
  pub room_output : w.room.output ≤ vec_capacity w.output
  pub room_a : w.room.a ≤ vec_capacity w.a
  pub room_b : w.room.b ≤ vec_capacity w.b
  pub room_written : w.room.written ≤ vec_capacity w.written
  pub b_now : w.b.items ≡ (file_after B w.first_b.items (log_of w).calls).now
