-- That the distances of two points from a line that parts them are differences of the two sums that a turn counts.
use Rattle.std.proofs.Common.{◌≡◌, ℕ, ◌+◌, ◌<◌, arith, inl, inr}
use Rattle.std.specs.Prelude.{unsigned_abs}
use Rattle.grid_base.specs.Point.{GridPoint}
use Rattle.grid_base.specs.Segment.{GridSegment}
use Rattle.grid_base.specs.Sides.{side_number}
use Rattle.grid_base.specs.Crossing.{IsParted}
use Rattle.grid_base.proofs.Turns.{leftward, rightward, turn_is}
use Rattle.grid_base.proofs.Crossings.{parted_is, size_above, size_below}

-- the distance of p from the line of s
abbrev pub distance : GridSegment → GridPoint → ℕ
distance s p = unsigned_abs (side_number s p)

-- p is left of s, at this distance
pub record IsLeftBy (s : GridSegment) (p : GridPoint) : Type 0 where
  pub sums : distance s p + rightward s.a s.b p ≡ leftward s.a s.b p
  pub above_0 : 0 < distance s p

-- p is right of s, at this distance
pub record IsRightBy (s : GridSegment) (p : GridPoint) : Type 0 where
  pub sums : distance s p + leftward s.a s.b p ≡ rightward s.a s.b p
  pub above_0 : 0 < distance s p

-- a point on the left has the distance by which the sum to the left is the greater
left_by : (s : GridSegment) (p : GridPoint) → rightward s.a s.b p < leftward s.a s.b p → IsLeftBy s p
left_by s p above =
    let sums = size_above (side_number s p) _ _ (turn_is s.a s.b p) above in
    record { sums = sums; above_0 = omega arith }

-- a point on the right has the distance by which the sum to the right is the greater
right_by : (s : GridSegment) (p : GridPoint) → leftward s.a s.b p < rightward s.a s.b p → IsRightBy s p
right_by s p below =
    let sums = size_below (side_number s p) _ _ (turn_is s.a s.b p) below in
    record { sums = sums; above_0 = omega arith }

-- of two points that are parted, one is left and the other right
pub data ArePartedBy (s : GridSegment) (p q : GridPoint) : Type 0 where
  Leftwards : IsLeftBy s p → IsRightBy s q → ArePartedBy s p q
  Rightwards : IsRightBy s p → IsLeftBy s q → ArePartedBy s p q

-- points that a line parts lie at distances from it, one on each side
pub parted_by : (s : GridSegment) (p q : GridPoint) → IsParted s p q → ArePartedBy s p q
parted_by s p q parted = elim (parted_is s p q parted) [
  | inl apart ↦ Leftwards (left_by s p apart.0) (right_by s q apart.1)
  | inr apart ↦ Rightwards (right_by s p apart.0) (left_by s q apart.1)
]
