-- What calls make of a file, and what a crash may leave of it.
use Rattle.std.specs.Prelude.{◌+◌, ℕ, Bool, true, false, List, [], ◌∷◌, length, min, max}
use Rattle.outside_world.specs.declared.world.FileName.{FileName}
use Rattle.outside_world.specs.declared.world.FileName.TheVariants.{A, B}
use Rattle.outside_world.specs.Calls.{overwritten}
use Rattle.outside_world.specs.Disk.{Range, Disk, IsImageOf}
use Rattle.outside_world.specs.Events.{Event, Written, Tried, Flushed}

-- a file: what it held at its last sync, the ranges that were written since, the newest first, and what it
-- reads as
pub record FileState : Type 0 where
  pub base : List ℕ
  pub pending : List Range
  pub now : List ℕ

-- a file that was opened with this content
abbrev pub opened : List ℕ → FileState
opened first = record { base = first; pending = []; now = first }

-- these are the same file
abbrev pub is_same_file : FileName → FileName → Bool
is_same_file A A = true
is_same_file B B = true
is_same_file f g = false

-- where a write begins: one that is to begin past the file's end begins at its end
abbrev pub begin_of : ℕ → FileState → ℕ
begin_of at s = min at (length s.now)

-- a file, written to
abbrev pub write : ℕ → List ℕ → FileState → FileState
write at bytes s = record s {
  pending = record { from = begin_of at s; size = length bytes } ∷ s.pending;
  now = overwritten (begin_of at s) bytes s.now;
}

-- a file to which a write of so many bytes failed: it reads as before
abbrev pub try_write : ℕ → ℕ → FileState → FileState
try_write at n s = record s { pending = record { from = begin_of at s; size = n } ∷ s.pending }

-- a file, synced
abbrev pub sync : FileState → FileState
sync s = record s { base = s.now; pending = [] }

-- this change, where it is for this file
abbrev pub if_for : Bool → (FileState → FileState) → FileState → FileState
if_for true change s = change s
if_for false change s = s

-- what one call makes of the file f
abbrev pub after_event : FileName → FileState → Event → FileState
after_event f s (Written file at bytes) = if_for (is_same_file f file) (write at bytes) s
after_event f s (Tried file at n) = if_for (is_same_file f file) (try_write at n) s
after_event f s (Flushed file) = if_for (is_same_file f file) sync s
after_event f s event = s

-- what calls make of it, one after another
abbrev pub after_events : FileName → FileState → List Event → FileState
after_events f s [] = s
after_events f s (event ∷ events) = after_events f (after_event f s event) events

-- the file f after these calls, where it was opened with this content
abbrev pub file_after : FileName → List ℕ → List Event → FileState
file_after f first events = after_events f (opened first) events

-- how long a file has been that held this at its last sync and was written so
abbrev pub greatest_length : List ℕ → List Range → ℕ
greatest_length base [] = length base
greatest_length base (range ∷ older) = max (greatest_length base older) (range.from + range.size)

-- what is known of its bytes
abbrev pub disk_of : List ℕ → List Range → Disk
disk_of base pending = record { base = base; pending = pending; greatest = greatest_length base pending }

-- a crash may leave this of a file
abbrev pub IsImage : FileState → List ℕ → Type 0
IsImage s c = IsImageOf (disk_of s.base s.pending) c
