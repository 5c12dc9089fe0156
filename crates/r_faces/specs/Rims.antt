-- The rims of faces, as what a rim says by itself.
use Rattle.std.specs.Prelude.{◌≡◌, ◌≢◌, ℕ, ◌<◌, List, Contains, AllPairs, length, slice_index}
use Rattle.grid_base.specs.Segment.{GridSegment, IsSegmentBefore}
use Rattle.grid_base.specs.Sides.{Side, On}
use Rattle.grid_base.specs.Plane.{Place, IsFree}
use Rattle.grid_base.specs.Odd.{Odd}
use Rattle.grid_base.specs.Border.{AreNoded, IsEvenBorder}
use Rattle.rose_values.specs.Areas.{IsInteriorPoint}
use Rattle.plane_classes.specs.Classes.{AreInOneClass}
use Rattle.plane_cells.specs.ClassNumbers.{number_at, LiesBeside}
use Rattle.plane_cells.specs.declared.classes.SideClasses.{SideClasses}
use Rattle.r_faces.specs.FaceCycles.{HasBeside, IsRim, IsBounded}
use Rattle.r_faces.specs.declared.face.Face.{Face}

-- z is in the face inside the rim: an odd place whose class each segment of the rim has on one side
pub record IsInside (rim : List GridSegment) (z : Place) : Type 0 where
  pub free : IsFree rim z
  pub odd : Odd rim z
  pub beside : (s : GridSegment) → Contains rim s
      → (d : Side) × (d ≢ On) × HasBeside rim s d (AreInOneClass rim z)

-- the rim is that of the face of z
pub record IsFaceRim (border rim : List GridSegment) (z : Place) : Type 0 where
  pub interior : IsInteriorPoint border z
  pub is_rim : IsRim border z rim
  pub inside : IsInside rim z

-- the rim is that of some face, and a border by itself
pub record IsSomeRim (border rim : List GridSegment) : Type 0 where
  pub some : 0 < length rim
  pub noded : AreNoded rim
  pub ascending : AllPairs IsSegmentBefore rim
  pub even : IsEvenBorder rim
  pub place : Place
  pub of_face : IsFaceRim border rim place

-- no segment is in both
abbrev pub HaveNone : List GridSegment → List GridSegment → Type 0
HaveNone first second = (s : GridSegment) → Contains first s → Contains second s → ⊥

-- n is the number of the class on the odd side of segment i
pub record HasOddNumber (border : List GridSegment) (numbers : List SideClasses) (i n : ℕ) : Type 0 where
  pub side : Side
  pub place : Place
  pub lies : LiesBeside border i side place
  pub odd : Odd border place
  pub is : n ≡ number_at numbers i side
  pub only : (d : Side) (q : Place) → LiesBeside border i d q → Odd border q → d ≡ side

-- the list has these numbers of the first k segments
pub record AreOddSides (border : List GridSegment) (numbers : List SideClasses) (k : ℕ) (list : List ℕ)
    : Type 0 where
  pub one_each : length list ≡ k
  pub each : (i : ℕ) → i < k → HasOddNumber border numbers i (slice_index list i)

-- the face is that of each place inside the rim
abbrev pub IsWithin : List GridSegment → Face → Type 0
IsWithin rim face = (z : Place) → IsInside rim z → IsBounded rim z face
