-- What predicates say of two values, by the points of the values: rational points, as places of the plane.
use Rattle.std.specs.Prelude.{◌↔◌, List, [], Contains}
use Rattle.grid_base.specs.Point.{GridPoint}
use Rattle.grid_base.specs.Segment.{GridSegment}
use Rattle.grid_base.specs.Crossing.{Inside}
use Rattle.grid_base.specs.Plane.{Place}
use Rattle.plane_classes.specs.Classes.{IsOuter}
use Rattle.rose_values.specs.Areas.{IsOneOf, IsOnSome, IsRegionPoint, IsInteriorPoint}
use Rattle.rose_values.specs.Operators.{segments_of}
use Rattle.rose_values.specs.declared.geometry.Geometry.{Geometry}
use Rattle.rose_values.specs.declared.geometry.Geometry.TheVariants.{P, L, R}
use Rattle.rose_values.specs.declared.operators.Pred.{Pred}
use Rattle.rose_values.specs.declared.operators.Pred.TheVariants as pred

-- the points of a value of points
abbrev pub points_of : Geometry → List GridPoint
points_of (P points) = points
points_of (L lines) = []
points_of (R border) = []

-- none of the points is inside a segment of the list
abbrev pub AreOutside : List GridPoint → List GridSegment → Type 0
AreOutside points list =
    (p : GridPoint) (s : GridSegment) → Contains points p → Contains list s → ¬ Inside p s

-- each segment of one of the lists is one of the other
abbrev pub HaveSameSegments : List GridSegment → List GridSegment → Type 0
HaveSameSegments A B = (s : GridSegment) → Contains A s ↔ Contains B s

-- ---- points of values
-- q is a point of the value
abbrev pub IsPointOf : Geometry → Place → Type 0
IsPointOf (P points) q = IsOneOf points q
IsPointOf (L lines) q = IsOnSome lines q
IsPointOf (R border) q = IsRegionPoint border q

-- q is interior to the value, which is a region: nothing is interior to points or lines
abbrev pub IsInteriorTo : Geometry → Place → Type 0
IsInteriorTo (P points) q = ⊥
IsInteriorTo (L lines) q = ⊥
IsInteriorTo (R border) q = IsInteriorPoint border q

-- ---- what two values have in common
-- some point is a point of both
abbrev pub ShareAPoint : Geometry → Geometry → Type 0
ShareAPoint a b = (q : Place) × IsPointOf a q × IsPointOf b q

-- some segment is one of both, of lines or of a border
abbrev pub ShareASegment : Geometry → Geometry → Type 0
ShareASegment a b = (s : GridSegment) × Contains (segments_of a) s × Contains (segments_of b) s

-- some point is on both borders
abbrev pub ShareABorderPoint : Geometry → Geometry → Type 0
ShareABorderPoint a b = (q : Place) × IsOnSome (segments_of a) q × IsOnSome (segments_of b) q

-- some point is interior to both
abbrev pub AreasMeet : Geometry → Geometry → Type 0
AreasMeet a b = (q : Place) × IsInteriorTo a q × IsInteriorTo b q

-- the second has a point of the first in its interior
abbrev pub ReachesInto : Geometry → Geometry → Type 0
ReachesInto a b = (q : Place) × IsPointOf a q × IsInteriorTo b q

-- ---- predicates that more than one row needs
-- the second has every point of the first
abbrev pub IsInside : Geometry → Geometry → Type 0
IsInside a b = (q : Place) → IsPointOf a q → IsPointOf b q

-- no point is interior to both, and no segment is common
abbrev pub AreEdgeDisjoint : Geometry → Geometry → Type 0
AreEdgeDisjoint a b = ¬ AreasMeet a b × ¬ ShareASegment a b

-- Two lines intersect where they have a common point, and two regions where their areas meet. Lines intersect
-- a region where they reach into it.
abbrev pub Intersect : Geometry → Geometry → Type 0
Intersect (L first) (L second) = ShareAPoint (L first) (L second)
Intersect (L lines) (R border) = ReachesInto (L lines) (R border)
Intersect a b = AreasMeet a b

-- Lines meet a region that they touch and don't reach into. Two regions meet where they touch, with no point
-- interior to both and no segment common.
abbrev pub Meet : Geometry → Geometry → Type 0
Meet (L lines) (R border) = ShareAPoint (L lines) (R border) × ¬ ReachesInto (L lines) (R border)
Meet a b = AreEdgeDisjoint a b × ShareAPoint a b

-- the border of the first shuts in all that is interior to the second: none of it is in the outer class
abbrev pub IsShutIn : Geometry → Geometry → Type 0
IsShutIn a b = (q : Place) → IsInteriorTo b q → ¬ IsOuter (segments_of a) q

-- ---- the table
-- what the predicate says of two values of kinds that it takes
abbrev pub IsTrueOf : Pred → Geometry → Geometry → Type 0
IsTrueOf pred.Equal a b = IsInside a b × IsInside b a
IsTrueOf pred.Inside a b = IsInside a b
IsTrueOf pred.EdgeInside a b = IsInside a b × ¬ ShareASegment a b
IsTrueOf pred.VertexInside a b = IsInside a b × ¬ ShareABorderPoint a b
IsTrueOf pred.AreaDisjoint a b = ¬ AreasMeet a b
IsTrueOf pred.EdgeDisjoint a b = AreEdgeDisjoint a b
IsTrueOf pred.Disjoint a b = ¬ ShareAPoint a b
IsTrueOf pred.Intersects a b = Intersect a b
IsTrueOf pred.Meets a b = Meet a b
IsTrueOf pred.Adjacent a b = ¬ AreasMeet a b × ShareASegment a b
IsTrueOf pred.Encloses a b = ¬ AreasMeet a b × IsShutIn a b
IsTrueOf pred.OnBorderOf a b = (q : Place) → IsPointOf a q → IsOnSome (segments_of b) q
IsTrueOf pred.BorderInCommon a b = ShareASegment a b
