-- Which lists of changes fit in a record.
use Rattle.std.specs.Prelude.{◌≡◌, ℕ, ◌+◌, ◌*◌, ◌<◌, ◌≤◌, ◌^◌, List, length}
use Rattle.std.specs.List.{AllByRecursion, sum_by}
use Rattle.record_codec.specs.declared.entry.Entry.{Entry}
use Rattle.record_codec.specs.Traces.{IsTrace}

-- room for the text of an entry: twelve bytes, its line, and 41 bytes a step, which is the most that a step takes
abbrev pub room_for : Entry → ℕ
room_for e = (12 + length e.line) + 41 * length e.trace

-- the line is not too long, and the steps are a trace
pub record IsShort (e : Entry) : Type 0 where
  pub line : length e.line ≤ 1048576
  pub trace : IsTrace e.trace

-- no entry is too long, and there is room for all their texts in less than 2^63 bytes
pub record AreEntries (entries : List Entry) : Type 0 where
  pub each : AllByRecursion IsShort entries
  pub fit : sum_by room_for entries < 2 ^ 63

-- this is the room for their texts
pub record HaveRoom (entries : List Entry) (room : ℕ) : Type 0 where
  pub are : AreEntries entries
  pub room_is : room ≡ sum_by room_for entries
