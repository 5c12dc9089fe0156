-- Numbers for the classes of the two sides of each segment of a border.
use Rattle.std.specs.Prelude.{◌≡◌, ◌≢◌, ◌⊎◌, ◌↔◌, ℕ, ◌<◌, List, length, slice_index_or}
use Rattle.grid_base.specs.Segment.{GridSegment}
use Rattle.grid_base.specs.Sides.{Side, On, Right}
use Rattle.grid_base.specs.Plane.{Place, IsFree, IsBeside}
use Rattle.plane_classes.specs.Classes.{AreInOneClass, IsOuter}
use Rattle.plane_cells.specs.Numbered.{numbered}
use Rattle.plane_cells.specs.declared.classes.SideClasses.{SideClasses}

-- of the numbers of two sides, that of the side d, which is left or right
abbrev pub number_on : SideClasses → Side → ℕ
number_on numbers Right = numbers.right
number_on numbers _ = numbers.left

-- the number that the list has for the side d of segment number i; 0 where the list is shorter
abbrev pub number_at : List SideClasses → ℕ → Side → ℕ
number_at numbers i d = number_on (slice_index_or numbers i (record { left = 0; right = 0 })) d

-- q lies beside segment number i of the border, on its side d, which is left or right
pub record LiesBeside (border : List GridSegment) (i : ℕ) (d : Side) (q : Place) : Type 0 where
  pub within : i < length border
  pub sided : d ≢ On
  pub beside : IsBeside border (numbered border i) d q

-- q is in one class with what lies beside a segment of the border
abbrev pub IsBySome : List GridSegment → Place → Type 0
IsBySome border q =
    (i : ℕ) × (d : Side) × (p : Place) × LiesBeside border i d p × AreInOneClass border q p

-- each side of each segment has the number of its class of the border: no two classes share a number, and 0
-- belongs to the outer class; each side has a place beside it, and each class but the outer one a side
pub record AreClassNumbers (border : List GridSegment) (numbers : List SideClasses) : Type 0 where
  pub one_each : length numbers ≡ length border
  pub some : (i : ℕ) (d : Side) → i < length border → d ≢ On → (q : Place) × LiesBeside border i d q
  pub one_class : (i j : ℕ) (d e : Side) (p q : Place) → LiesBeside border i d p → LiesBeside border j e q
      → (number_at numbers i d ≡ number_at numbers j e) ↔ AreInOneClass border p q
  pub outer : (i : ℕ) (d : Side) (q : Place) → LiesBeside border i d q
      → (number_at numbers i d ≡ 0) ↔ IsOuter border q
  pub each_class : (q : Place) → IsFree border q → IsOuter border q ⊎ IsBySome border q
