-- The cycles of the faces of a region: what a list of faces has to be.
use Rattle.std.specs.Prelude.{◌≡◌, ◌≢◌, ◌⊎◌, List, Contains, All, AllPairs, Any}
use Rattle.grid_base.specs.Point.{GridPoint}
use Rattle.grid_base.specs.Segment.{GridSegment}
use Rattle.grid_base.specs.Sides.{Side, Left, On, Right}
use Rattle.grid_base.specs.Plane.{Place, IsFree, IsBeside}
use Rattle.rose_values.specs.Areas.{IsInteriorPoint}
use Rattle.plane_classes.specs.Classes.{AreInOneClass, IsOuter}
use Rattle.r_cycles.specs.Cycles.{Link, link, links, round, IsCycle}
use Rattle.r_faces.specs.Turned.{BeginsLeast, IsListBefore}
use Rattle.r_faces.specs.declared.face.Face.{Face}

-- some place beside s, on its side d, is in P
abbrev pub HasBeside : List GridSegment → GridSegment → Side → (Place → Type 0) → Type 0
HasBeside list s d P = (q : Place) × IsBeside list s d q × P q

-- the rim of the face of z: the segments of the border that have a place of the face beside them
pub record IsRim (border : List GridSegment) (z : Place) (rim : List GridSegment) : Type 0 where
  pub of_these : (s : GridSegment) → Contains rim s
      → Contains border s × ((d : Side) × (d ≢ On) × HasBeside border s d (AreInOneClass border z))
  pub all : (s : GridSegment) (d : Side) → Contains border s → d ≢ On
      → HasBeside border s d (AreInOneClass border z) → Contains rim s

-- the link runs along a segment of the rim, with the face of z on its left and P on its right
abbrev pub RunsBetween : List GridSegment → Place → (Place → Type 0) → Link → Type 0
RunsBetween rim z P l =
    (s : GridSegment) × Contains rim s
    × (((l ≡ link s.a s.b) × HasBeside rim s Left (AreInOneClass rim z) × HasBeside rim s Right P)
    ⊎ ((l ≡ link s.b s.a) × HasBeside rim s Right (AreInOneClass rim z) × HasBeside rim s Left P))

-- the cycle is the whole border between the face of z and the class P, with the face on its left; each vertex
-- on it is written, also where it goes straight on
pub record IsBorderCycle (rim : List GridSegment) (z : Place) (P : Place → Type 0) (cycle : List GridPoint)
    : Type 0 where
  pub is_cycle : IsCycle cycle
  pub begins_least : BeginsLeast cycle
  pub between : All (RunsBetween rim z P) (links (round cycle))
  pub all_links : (l : Link) → RunsBetween rim z P l → Contains (links (round cycle)) l

-- y is in a class outside the face of z that isn't the outer one, as the rim of the face parts the plane
pub record IsEnclosed (rim : List GridSegment) (z y : Place) : Type 0 where
  pub free : IsFree rim y
  pub not_outer : IsOuter rim y → ⊥
  pub not_of_face : AreInOneClass rim z y → ⊥

-- the face of z within its rim, by its border to the outer class and one to each enclosed class
pub record IsBounded (rim : List GridSegment) (z : Place) (face : Face) : Type 0 where
  pub outer_cycle : IsBorderCycle rim z (IsOuter rim) face.outer
  pub only : (hole : List GridPoint) → Contains face.holes hole
      → (y : Place) × IsEnclosed rim z y × IsBorderCycle rim z (AreInOneClass rim y) hole
  pub each : (y : Place) → IsEnclosed rim z y
      → Any (IsBorderCycle rim z (AreInOneClass rim y)) face.holes
  pub ascending : AllPairs IsListBefore face.holes

-- the face of z, which is an interior place of the region, by its rim
pub record IsFaceOf (border : List GridSegment) (z : Place) (face : Face) : Type 0 where
  pub interior : IsInteriorPoint border z
  pub rim : List GridSegment
  pub is_rim : IsRim border z rim
  pub bounded : IsBounded rim z face

-- the list has the faces of the region with this border, each once, in the order of their outer cycles
pub record AreFaces (border : List GridSegment) (faces : List Face) : Type 0 where
  pub only : (face : Face) → Contains faces face → (z : Place) × IsFaceOf border z face
  pub each : (z : Place) → IsInteriorPoint border z → Any (IsFaceOf border z) faces
  pub ascending : AllPairs (λ f g. IsListBefore f.outer g.outer) faces
