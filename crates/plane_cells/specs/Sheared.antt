-- The plane, sheared so that the order of points is the order of columns. No public clause cites this file.
use Rattle.std.specs.Prelude.{◌≡◌, ℕ, ◌<◌, List, Contains, length}
use Rattle.grid_base.specs.Grid.{grid_side}
use Rattle.grid_base.specs.Point.{GridPoint}
use Rattle.grid_base.specs.Segment.{GridSegment}
use Rattle.grid_base.specs.Segment.{IsEnd}
use Rattle.segment_lists.specs.OnGrid.{IsOnGrid}
use Rattle.plane_classes.specs.Shear.{sheared}
use Rattle.plane_cells.specs.Numbered.{numbered}
use Rattle.grid_base.specs.Plane.{Place, Holds, IsAtPoint}

-- where segment number i of the list is in the sheared plane
abbrev pub sheared_number : List GridSegment → ℕ → GridSegment
sheared_number B i = sheared grid_side (numbered B i)

-- the segments are those of a realm, and none is listed twice
pub record AreOfRealm (B : List GridSegment) : Type 0 where
  pub on_grid : (s : GridSegment) → Contains B s → IsOnGrid s
  pub only_ends_in_common : (s t : GridSegment) (q : Place) → Contains B s → Contains B t → (s ≡ t → ⊥)
      → Holds s q → Holds t q → (p : GridPoint) × IsEnd p s × IsEnd p t × IsAtPoint q p
  pub once : (i j : ℕ) → i < length B → j < length B → numbered B i ≡ numbered B j → i ≡ j
