-- This file defines the numbers of the classes that hold interior points of a region.
use Rattle.std.specs.Prelude.{◌≡◌, ℕ, ◌<◌, List, Contains}
use Rattle.grid_base.specs.Segment.{GridSegment}
use Rattle.grid_base.specs.Sides.{Side}
use Rattle.grid_base.specs.Plane.{Place}
use Rattle.grid_base.specs.Odd.{Odd}
use Rattle.plane_cells.specs.ClassNumbers.{number_at, LiesBeside}
use Rattle.plane_cells.specs.declared.classes.SideClasses.{SideClasses}

-- q lies beside a segment of the border, on a side that has the number n, and is odd
pub record IsOddOf (border : List GridSegment) (numbers : List SideClasses) (n : ℕ) (q : Place) : Type 0 where
  pub place : ℕ
  pub side : Side
  pub lies : LiesBeside border place side q
  pub odd : Odd border q
  pub number : n ≡ number_at numbers place side

-- the list has the numbers of the odd sides of the first k segments
pub record AreOddNumbers (border : List GridSegment) (numbers : List SideClasses) (k : ℕ) (list : List ℕ)
    : Type 0 where
  pub only : (n : ℕ) → Contains list n → (q : Place) × IsOddOf border numbers n q
  pub all : (i : ℕ) (d : Side) (q : Place) → i < k → LiesBeside border i d q → Odd border q
      → Contains list (number_at numbers i d)
