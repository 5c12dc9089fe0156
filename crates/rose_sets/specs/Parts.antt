-- Parts: single points, connected parts of lines, and the faces of a region.
use Rattle.std.specs.Prelude.{◌≡◌, List, [], ◌∷◌, map}
use Rattle.std.specs.List.{AllZip}
use Rattle.grid_base.specs.Segment.{GridSegment}
use Rattle.grid_base.specs.Plane.{Place}
use Rattle.rose_values.specs.Areas.{IsInteriorPoint}
use Rattle.rose_values.specs.declared.geometry.Geometry.{Geometry}
use Rattle.rose_values.specs.declared.geometry.Geometry.TheVariants.{P, L, R}
use Rattle.r_blocks.specs.Blocks.{AreBlocks, AreInOrder}
use Rattle.r_faces.specs.FaceCycles.{IsRim, IsFaceOf, AreFaces}
use Rattle.r_faces.specs.declared.face.Face.{Face}

-- there are places of the face, and the part has the segments of the border that have such a place beside them
pub record IsBorderOfFace (border : List GridSegment) (face : Face) (part : List GridSegment) : Type 0 where
  pub place : Place
  pub of_face : IsFaceOf border place face
  pub is_rim : (z : Place) → IsFaceOf border z face → IsRim border z part

-- the lines are cut into their connected parts, in the order of their least segments
pub record AreConnectedParts (lines : List GridSegment) (parts : List Geometry) : Type 0 where
  pub blocks : List (List GridSegment)
  pub are_blocks : AreBlocks lines blocks
  pub in_order : AreInOrder blocks
  pub as_lines : parts ≡ map (λ block. L block) blocks

-- one part a face, in the order of the faces: the region that has the border of the face
pub record AreFaceRegions (border : List GridSegment) (parts : List Geometry) : Type 0 where
  pub faces : List Face
  pub borders : List (List GridSegment)
  pub are_faces : AreFaces border faces
  pub own : AllZip (IsBorderOfFace border) faces borders
  pub as_regions : parts ≡ map (λ part. R part) borders

-- the parts of a value
abbrev pub AreParts : Geometry → List Geometry → Type 0
AreParts (P points) parts = parts ≡ map (λ p. P (p ∷ [])) points
AreParts (L lines) parts = AreConnectedParts lines parts
AreParts (R border) parts = AreFaceRegions border parts

-- where both are regions, no point is interior to both
abbrev pub AreApart : Geometry → Geometry → Type 0
AreApart (R first) (R second) = (q : Place) → IsInteriorPoint first q → IsInteriorPoint second q → ⊥
AreApart g h = Unit {0}
