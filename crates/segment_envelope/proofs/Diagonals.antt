-- That the coordinates of the places of a diagonal have a whole difference or sum, and that of its grid points the same.
use Rattle.std.proofs.Common.{◌≡◌, ◌⊎◌, ℕ, ◌+◌, ◌*◌, ◌<◌, ap, arith, inl, inr}
use Rattle.grid_base.specs.Point.{GridPoint, IsBefore}
use Rattle.grid_base.specs.Segment.{GridSegment, width, height}
use Rattle.grid_base.specs.Places.{RationalPoint}
use Rattle.grid_base.proofs.Turns.{leftward, rightward, in_order}
use Rattle.grid_base.proofs.Balances.{gap_cancels}
use Rattle.grid_base.proofs.Lines.{IsOnLine}

-- s is a diagonal that rises
pub record IsRising (s : GridSegment) : Type 0 where
  pub across : s.a.x < s.b.x
  pub up : s.a.y < s.b.y
  pub even : s.b.x + s.a.y ≡ s.a.x + s.b.y

-- s is a diagonal that falls
pub record IsFalling (s : GridSegment) : Type 0 where
  pub across : s.a.x < s.b.x
  pub down : s.b.y < s.a.y
  pub even : s.b.x + s.b.y ≡ s.a.x + s.a.y

-- a diagonal rises or falls
pub rises_or_falls : (s : GridSegment) → IsBefore s.a s.b → width s ≡ height s → IsRising s ⊎ IsFalling s
rises_or_falls s ordered same = elim (in_order s.a.y s.b.y) [
  | inl up ↦ inl (record { across = omega arith; up = omega arith; even = omega arith })
  | inr down ↦ inr (record { across = omega arith; down = omega arith; even = omega arith })
]

-- at the places of a rising diagonal x and y have the same difference
pub rising_place : (s : GridSegment) (q : RationalPoint) → IsRising s → IsOnLine s q → q.y + s.a.x * q.w ≡ q.x + s.a.y * q.w
rising_place s q rising line =
    let at_x = ap (λ (n : ℕ). n * q.x) rising.even in
    let at_a = ap (λ (n : ℕ). n * (s.a.x * q.w)) rising.even in
    gap_cancels (q.y + s.a.x * q.w) (q.x + s.a.y * q.w) s.a.x s.b.x (omega (arith, rising.across)) (omega arith)

-- at the places of a falling diagonal x and y have the same sum
pub falling_place : (s : GridSegment) (q : RationalPoint) → IsFalling s → IsOnLine s q → q.y + q.x ≡ (s.a.x + s.a.y) * q.w
falling_place s q falling line =
    let at_x = ap (λ (n : ℕ). n * q.x) falling.even in
    let at_a = ap (λ (n : ℕ). n * (s.a.x * q.w)) falling.even in
    gap_cancels (q.y + q.x) ((s.a.x + s.a.y) * q.w) s.a.x s.b.x (omega (arith, falling.across)) (omega arith)

-- a grid point with this difference is on the line of the rising diagonal
pub rising_point : (s : GridSegment) (p : GridPoint) → IsRising s → p.y + s.a.x ≡ p.x + s.a.y → leftward s.a s.b p ≡ rightward s.a s.b p
rising_point s p rising same =
    let at_x = ap (λ (n : ℕ). n * p.x) rising.even in
    let at_a = ap (λ (n : ℕ). n * s.a.x) rising.even in
    let at_b = ap (λ (n : ℕ). n * s.b.x) same in
    let at_c = ap (λ (n : ℕ). n * s.a.x) same in
    omega arith

-- a grid point with this sum is on the line of the falling diagonal
pub falling_point : (s : GridSegment) (p : GridPoint) → IsFalling s → p.y + p.x ≡ s.a.x + s.a.y → leftward s.a s.b p ≡ rightward s.a s.b p
falling_point s p falling same =
    let at_x = ap (λ (n : ℕ). n * p.x) falling.even in
    let at_a = ap (λ (n : ℕ). n * s.a.x) falling.even in
    let at_b = ap (λ (n : ℕ). n * s.b.x) same in
    let at_c = ap (λ (n : ℕ). n * s.a.x) same in
    omega arith
