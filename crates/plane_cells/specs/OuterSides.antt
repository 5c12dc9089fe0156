-- Whether the sides of segments lie in the outer class of a border.
use Rattle.std.specs.Prelude.{List}
use Rattle.grid_base.specs.Segment.{GridSegment}
use Rattle.grid_base.specs.Sides.{Left, Right}
use Rattle.grid_base.specs.Plane.{Tells}
use Rattle.grid_base.specs.declared.kinds.Sides.{Sides}
use Rattle.plane_classes.specs.Classes.{IsOuter}

-- each answer is that of one side of s: whether what lies beside s there is in the outer class of the border
pub record AreOuterSides (border : List GridSegment) (s : GridSegment) (answer : Sides) : Type 0 where
  pub left : Tells border s Left (IsOuter border) answer.left
  pub right : Tells border s Right (IsOuter border) answer.right
