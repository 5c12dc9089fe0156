-- This file shows that a grid point lies to a segment as its place of the plane does.
use Rattle.std.proofs.Common.{◌≡◌, ℕ, zero, suc, ◌*◌, ℤ, pos, negsuc, refl, sym, ap, ◌∙◌, arith}
use Rattle.std.specs.Int.Signed.{lt_z}
use Rattle.std.proofs.lemmas.Bool.{le-ltb}
use Rattle.grid_base.specs.Point.{GridPoint}
use Rattle.grid_base.specs.Segment.{GridSegment}
use Rattle.grid_base.specs.Sides.{side_of, side_number, turn}
use Rattle.grid_base.specs.SideOf.{as_rational}
use Rattle.grid_base.specs.Plane.{as_place, side_number_at, side_at}
use Rattle.grid_base.specs.Odd.{is_right}

times_one : (n : ℕ) → n * 1 ≡ n
times_one n = omega arith

-- the side number of a grid point is that of its place
pub number_at_point : (s : GridSegment) (p : GridPoint) → side_number_at s (as_place (as_rational p)) ≡ side_number s p
unfolding side_number_at turn
number_at_point s p = rw (times_one s.a.x, times_one s.a.y) refl

-- the side number is below 0 exactly on the right
below_on_right : (z : ℤ) → lt_z z (pos 0) ≡ is_right (side_of z)
below_on_right (pos zero) = le-ltb 0 0 (omega arith)
below_on_right (pos (suc n)) = le-ltb (suc n) 0 (omega arith)
below_on_right (negsuc n) = refl

-- and so of the place of a grid point
pub right_at_point : (s : GridSegment) (p : GridPoint) (z : ℤ) → z ≡ side_number s p
    → lt_z z (pos 0) ≡ is_right (side_at s (as_place (as_rational p)))
right_at_point s p z is = below_on_right z ∙ ap (λ n. is_right (side_of n)) (is ∙ sym (number_at_point s p))
