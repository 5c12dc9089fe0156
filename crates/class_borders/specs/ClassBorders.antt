-- How segments and cycles lie to classes.
use Rattle.std.specs.Prelude.{◌⊎◌, List, Contains, All}
use Rattle.grid_base.specs.Point.{GridPoint}
use Rattle.grid_base.specs.Segment.{GridSegment}
use Rattle.grid_base.specs.Plane.{Place}
use Rattle.plane_classes.specs.Classes.{AreInOneClass, AreAcross}
use Rattle.r_cycles.specs.Cycles.{Link, link, links, round}

-- s lies between the classes of p and q: it has one of them on each side
abbrev pub LiesBetween : List GridSegment → Place → Place → GridSegment → Type 0
LiesBetween list p q s =
    (u : Place) × (w : Place) × AreAcross list s u w × AreInOneClass list p u × AreInOneClass list q w

-- the link the other way
abbrev pub back : Link → Link
back l = link l.to l.from

-- the cycle goes along these links, each one way or the other, and along no other
pub record GoesAlong (list : List Link) (cycle : List GridPoint) : Type 0 where
  pub each : (l : Link) → Contains list l
      → Contains (links (round cycle)) l ⊎ Contains (links (round cycle)) (back l)
  pub only : (l : Link) → Contains (links (round cycle)) l → Contains list l ⊎ Contains list (back l)

-- all links of the cycle are of the list, or all are the other way
abbrev pub GoesOneWay : List Link → List GridPoint → Type 0
GoesOneWay list cycle =
    All (Contains list) (links (round cycle)) ⊎ All (λ l. Contains list (back l)) (links (round cycle))
