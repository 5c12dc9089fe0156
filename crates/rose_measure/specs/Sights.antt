-- How a part is seen from a point between two. No public clause cites this file.
use Rattle.std.specs.Prelude.{ℕ, ◌+◌, ◌*◌, ◌≤◌}
use Rattle.grid_base.specs.Point.{GridPoint, point_at}
use Rattle.rose_measure.specs.Numbers.{squared_distance}
use Rattle.rose_measure.specs.Extremes.{IsInBounds}
use Rattle.rose_measure.specs.declared.narrowing.Sight.{Sight}

-- the columns of the two together, and their rows
abbrev pub sum_of : GridPoint → GridPoint → GridPoint
sum_of p q = point_at (p.x + q.x) (p.y + q.y)

-- the sum of each two points that lie opposite one another, seen from the middle
abbrev pub twice : GridPoint → GridPoint
twice middle = point_at (2 * middle.x) (2 * middle.y)

-- q is in the box, and no farther from the middle than what is in sight
pub record IsInSight (sight : Sight) (q : GridPoint) : Type 0 where
  pub inside : IsInBounds sight.bounds.low sight.bounds.high q
  pub within : squared_distance q sight.middle ≤ sight.far

-- nothing in sight is farther from p than what was found
abbrev pub IsNear : Sight → ℕ → GridPoint → Type 0
IsNear sight found p = (q : GridPoint) → IsInSight sight q → squared_distance p q ≤ found
