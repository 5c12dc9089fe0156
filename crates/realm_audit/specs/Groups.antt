-- Boxes around pieces. No public clause cites this file.
use Rattle.std.specs.Prelude.{◌≡◌, ℕ, ◌-◌, ◌<◌, ◌≤◌, min, max, List, Any, Contains, ◌⊎◌}
use Rattle.grid_base.specs.Point.{GridPoint}
use Rattle.grid_base.specs.Segment.{GridSegment}
use Rattle.grid_base.specs.Crossing.{Inside}
use Rattle.realm_audit.specs.Clashes.{AreClashes}
use Rattle.realm_audit.specs.Shelves.{lowest, highest}
use Rattle.realm_audit.specs.declared.bounds.Bounds.{Bounds}

-- t is within the bounds
pub record Surrounds (b : Bounds) (t : GridSegment) : Type 0 where
  pub left : b.left ≤ t.a.x
  pub right : t.b.x ≤ b.right
  pub low : b.low ≤ lowest t
  pub high : highest t ≤ b.high

-- r are the least bounds around b and t
pub record AreWidened (b : Bounds) (t : GridSegment) (r : Bounds) : Type 0 where
  pub left : r.left ≡ min b.left t.a.x
  pub right : r.right ≡ max b.right t.b.x
  pub low : r.low ≡ min b.low (lowest t)
  pub high : r.high ≡ max b.high (highest t)

-- how far the bounds reach across and up, whichever is more
abbrev pub extent_of_bounds : Bounds → ℕ
extent_of_bounds b = max (b.right - b.left) (b.high - b.low)

-- the least bounds around b and t reach further than so much
abbrev pub ReachFurther : Bounds → GridSegment → ℕ → Type 0
ReachFurther b t most = (r : Bounds) → AreWidened b t r → most < extent_of_bounds r

-- t is one of the list, and an explicit point is inside it or one of the list clashes with it
pub record ClashesAmong (points : List GridPoint) (near : List GridSegment) (t : GridSegment) : Type 0 where
  pub one : Contains near t
  pub clash : Any (λ p. Inside p t) points ⊎ Any (AreClashes t) near
