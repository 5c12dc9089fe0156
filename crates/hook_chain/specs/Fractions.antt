-- Fractions that are nearest from above. No public clause cites this file.
use Rattle.std.specs.Prelude.{ℕ, ◌*◌, ◌<◌, ◌≤◌}

-- p / q isn't below c / d, and of these fractions with a denominator of at most n it is the least, in lowest
-- terms
pub record IsLeastAbove (c d n p q : ℕ) : Type 0 where
  pub some : 0 < q
  pub within : q ≤ n
  pub above : c * q ≤ p * d
  pub least : (a b : ℕ) → 0 < b → b ≤ n → c * b ≤ a * d → p * b ≤ a * q
  pub lowest : (a b : ℕ) → 0 < b → b < q → c * b ≤ a * d → p * b < a * q
