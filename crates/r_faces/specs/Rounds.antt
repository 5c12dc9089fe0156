-- Cycles round classes, by the numbers of classes. No public clause cites this file.
use Rattle.std.specs.Prelude.{◌≡◌, ◌≢◌, ◌⊎◌, ◌==◌, ℕ, ◌<◌, if◌then◌else◌, List, Contains, length, slice_index}
use Rattle.grid_base.specs.Point.{GridPoint}
use Rattle.grid_base.specs.Segment.{GridSegment}
use Rattle.grid_base.specs.Sides.{Left, Right}
use Rattle.plane_cells.specs.ClassNumbers.{number_at}
use Rattle.plane_cells.specs.declared.classes.SideClasses.{SideClasses}
use Rattle.class_borders.specs.ClassLinks.{class_links}
use Rattle.class_borders.specs.ClassBorders.{back}
use Rattle.r_cycles.specs.Cycles.{Link, links, round, IsCycle}
use Rattle.r_faces.specs.Turned.{BeginsLeast}

-- each segment of the rim has the class number `face` on just one side
abbrev pub IsFaceNumber : List GridSegment → List SideClasses → ℕ → Type 0
IsFaceNumber rim numbers face = (i : ℕ) → i < length rim
    → ((number_at numbers i Left ≡ face) × (number_at numbers i Right ≢ face))
    ⊎ ((number_at numbers i Right ≡ face) × (number_at numbers i Left ≢ face))

-- the list has for each of the first k segments the number on the side that isn't the face's
pub record AreBeyond (numbers : List SideClasses) (face k : ℕ) (list : List ℕ) : Type 0 where
  pub one_each : length list ≡ k
  pub each : (i : ℕ) → i < k → slice_index list i
      ≡ (if number_at numbers i Left == face then number_at numbers i Right else number_at numbers i Left)

-- the cycle goes along all segments with the class n on one side alone, with n on the right
pub record IsRound (rim : List GridSegment) (numbers : List SideClasses) (n : ℕ) (cycle : List GridPoint)
    : Type 0 where
  pub is_cycle : IsCycle cycle
  pub begins_least : BeginsLeast cycle
  pub only : (l : Link) → Contains (links (round cycle)) l → Contains (class_links n rim numbers) (back l)
  pub all : (l : Link) → Contains (class_links n rim numbers) (back l) → Contains (links (round cycle)) l
