-- A steady world: one in memory on which no call fails.
use Rattle.std.specs.Prelude.{◌≡◌, ◌+◌, ℕ, Bool, true, false, List, length}
use Rattle.outside_world.specs.declared.call_log.Room.{Room}
use Rattle.outside_world.specs.View.{View}
use Rattle.outside_world.specs.Events.{Event}
use Rattle.outside_world.specs.Log.{Log, empty_log, with_room, with_event, log_view}

-- a steady world
pub record Steady : Type 0 where
  -- what it began with, and what its calls did
  pub log : Log
  -- all fitted so far
  pub fits : Bool

-- what it tells
abbrev pub steady_view : Steady → View
steady_view w = log_view w.log

-- how often a call has failed: never
abbrev pub no_faults : Steady → ℕ
no_faults w = 0

-- whether a call has failed: no
abbrev pub never_failed : Steady → Bool
never_failed w = false

-- the room of a steady world: for 65,536 calls, 1 MiB of output and 1 MiB more in each file, and 4 MiB of
-- written bytes
abbrev pub steady_room : (a b : List ℕ) → Room
steady_room a b = record {
  calls = 65536;
  output = 1048576;
  a = length a + 1048576;
  b = length b + 1048576;
  written = 4194304;
}

-- a world that has had no call
abbrev pub fresh_steady : (input a b : List ℕ) → Steady
fresh_steady input a b = record { log = with_room (empty_log input a b) (steady_room a b); fits = true }

-- where a call fitted, all before it did, and it was noted
pub record Noted (old new : Steady) (event : Event) : Type 0 where
  pub fitted : old.fits ≡ true
  pub noted : new.log ≡ with_event old.log event

abbrev pub Notes : Steady → Steady → Event → Type 0
Notes old new event = new.fits ≡ true → Noted old new event

-- where this fits, the world goes on telling
abbrev pub Stays : Steady → Steady → Type 0 → Type 0
Stays old new fits = old.fits ≡ true → fits → new.fits ≡ true
