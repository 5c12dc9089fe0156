-- What the calls on a world did, one after another.
use Rattle.std.specs.Prelude.{◌+◌, ℕ, List, [], ◌∷◌, ◌++◌, length}
use Rattle.outside_world.specs.declared.world.FileName.{FileName}

-- What one call did: a take took so many bytes, a give gave these bytes, a write put these bytes from a place
-- of a file on, a write of so many bytes there failed, a sync made a file last, or nothing came of it.
pub data Event : Type 0 where
  Taken : ℕ → Event
  Given : List ℕ → Event
  Written : FileName → ℕ → List ℕ → Event
  Tried : FileName → ℕ → ℕ → Event
  Flushed : FileName → Event
  Looked : Event

-- how many bytes a call took
abbrev pub taken_at : Event → ℕ
taken_at (Taken n) = n
taken_at event = 0

-- the bytes that a call gave
abbrev pub given_at : Event → List ℕ
given_at (Given bytes) = bytes
given_at event = []

-- how many bytes these calls took
abbrev pub taken_by : List Event → ℕ
taken_by [] = 0
taken_by (event ∷ events) = taken_at event + taken_by events

-- the bytes that these calls gave
abbrev pub given_by : List Event → List ℕ
given_by [] = []
given_by (event ∷ events) = given_at event ++ given_by events

-- how many bytes a call wrote
abbrev pub written_at : Event → ℕ
written_at (Written file at bytes) = length bytes
written_at event = 0

-- how many bytes these calls wrote
abbrev pub size_written_by : List Event → ℕ
size_written_by [] = 0
size_written_by (event ∷ events) = written_at event + size_written_by events

-- this call was a take
abbrev pub IsTake : Event → Type 0
IsTake (Taken n) = Unit {0}
IsTake event = ⊥
