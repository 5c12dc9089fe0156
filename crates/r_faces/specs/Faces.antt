-- The faces of a region, by the places that they hold.
use Rattle.std.specs.Prelude.{◌≡◌, ℕ, List, Contains, Any, AllPairs, length}
use Rattle.grid_base.specs.Segment.{GridSegment}
use Rattle.grid_base.specs.Plane.{Place}
use Rattle.rose_values.specs.Areas.{IsInteriorPoint}
use Rattle.plane_classes.specs.Classes.{AreInOneClass}

-- the list has one place of each face of the region with this border: a face is a class of the border that
-- holds interior points of the region
pub record HasOneOfEachFace (border : List GridSegment) (places : List Place) : Type 0 where
  pub interior : (q : Place) → Contains places q → IsInteriorPoint border q
  pub apart : AllPairs (λ p q. AreInOneClass border p q → ⊥) places
  pub each : (q : Place) → IsInteriorPoint border q → Any (λ p. AreInOneClass border q p) places

-- the region with this border has n faces
abbrev pub IsNumberOfFaces : List GridSegment → ℕ → Type 0
IsNumberOfFaces border n = (places : List Place) × HasOneOfEachFace border places × (length places ≡ n)
