-- Fractions of the program, and the rational points that they stand for.
use Rattle.std.specs.Prelude.{◌≡◌, pos}
use Rattle.grid_base.specs.Places.{RationalPoint}
use Rattle.grid_rational.specs.declared.fraction.Crossing.{Crossing}

-- the fraction c has the numbers of the rational point q
pub record IsFraction (c : Crossing) (q : RationalPoint) : Type 0 where
  pub x : c.x ≡ pos q.x
  pub y : c.y ≡ pos q.y
  pub w : c.w ≡ pos q.w
