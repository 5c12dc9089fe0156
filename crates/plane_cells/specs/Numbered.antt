-- The segments of a list by their numbers, from 0 on.
use Rattle.std.specs.Prelude.{ℕ, List, slice_index_or}
use Rattle.grid_base.specs.Segment.{GridSegment}

-- a segment for the numbers that stand for none
abbrev pub nowhere : GridSegment
nowhere = record { a = record { x = 0; y = 0 }; b = record { x = 0; y = 0 } }

-- segment number i of the list
abbrev pub numbered : List GridSegment → ℕ → GridSegment
numbered list i = slice_index_or list i nowhere
