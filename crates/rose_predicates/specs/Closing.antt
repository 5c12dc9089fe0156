-- Sides of a border that lie in the outer class of another. No public clause cites this file.
use Rattle.std.specs.Prelude.{◌⊎◌, ℕ, ◌<◌, List, IsTrue, slice_index_or}
use Rattle.grid_base.specs.Segment.{GridSegment}
use Rattle.grid_base.specs.Sides.{Left, Right}
use Rattle.grid_base.specs.Plane.{Place, IsBeside}
use Rattle.grid_base.specs.Odd.{Odd}
use Rattle.grid_base.specs.declared.kinds.Sides.{Sides}

-- a side of s is odd for the border and outer, as is told
abbrev pub HasOpenSide : List GridSegment → GridSegment → Sides → Type 0
HasOpenSide border s outer =
    ((z : Place) × IsBeside border s Left z × Odd border z × IsTrue outer.left)
    ⊎ ((z : Place) × IsBeside border s Right z × Odd border z × IsTrue outer.right)

-- none of the first n segments of the border has such a side
abbrev pub NoneIsOpen : List GridSegment → List Sides → ℕ → Type 0
NoneIsOpen border outer n = (k : ℕ) (s : GridSegment) (o : Sides) → k < n
    → ¬ HasOpenSide border (slice_index_or border k s) (slice_index_or outer k o)
