-- The segments that have the outer class on just one of their sides. No public clause cites this file.
use Rattle.std.specs.Prelude.{◌==◌, not, Bool, if◌then◌else◌, List, [], ◌∷◌, ◌↔◌}
use Rattle.grid_base.specs.Segment.{GridSegment}
use Rattle.grid_base.specs.Plane.{Place, IsFree}
use Rattle.grid_base.specs.Odd.{Odd}
use Rattle.grid_base.specs.Border.{IsEvenBorder}
use Rattle.plane_classes.specs.Classes.{IsOuter}
use Rattle.plane_cells.specs.declared.classes.SideClasses.{SideClasses}

-- whether one of the two numbers is 0 and the other isn't
abbrev pub is_rim : SideClasses → Bool
is_rim n = if n.left == 0 then not (n.right == 0) else (n.right == 0)

-- the segments of the border with such numbers, in order
abbrev pub rims : List GridSegment → List SideClasses → List GridSegment
rims [] numbers = []
rims (s ∷ border) [] = []
rims (s ∷ border) (n ∷ numbers) = if is_rim n then s ∷ rims border numbers else rims border numbers

-- the list is the border of the region whose places are those that aren't in the outer class
pub record IsInterior (border list : List GridSegment) : Type 0 where
  pub even : IsEvenBorder list
  pub places : (q : Place) → IsFree border q → Odd list q ↔ (IsOuter border q → ⊥)
