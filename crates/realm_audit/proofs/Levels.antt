-- This file shows that a number is below the reach of its level, and that no level of the grid is too high.
use Rattle.std.proofs.Common.{◌≡◌, ℕ, ◌+◌, ◌-◌, ◌*◌, ◌/◌, ◌<◌, ◌≤◌, sym, subst, arith, inl, inr}
use Rattle.std.specs.Int.{leading_zeros, w32}
use Rattle.std.proofs.lemmas.Bool.{cases_lt}
use Rattle.std.proofs.lemmas.Nat.{leading_length}
use Rattle.std.proofs.Math.Nat.{pow-le-pow_right}
use Rattle.grid_base.specs.Grid.{grid_bits, grid_side}
use Rattle.realm_audit.specs.Shelves.{reach_of, top_level}

-- the digits of a number of a level are no more than those of its reach
few_digits : (m : ℕ) → m ≤ 2 * ((m - 3) / 2) + 4
few_digits m = omega arith

pub level_fits : (n : ℕ) → n < grid_side → n < reach_of ((29 - leading_zeros w32 n) / 2)
level_fits n below =
    let (m, digits, fits, short) = leading_length 32 n (omega (arith, below)) in
    let is : 29 - leading_zeros w32 n ≡ m - 3 = omega (arith, digits) in
    let up = pow-le-pow_right {n = 2} (omega arith) (few_digits m) in
    subst (λ (k : ℕ). n < reach_of (k / 2)) (sym is) (omega (arith, fits, up))

pub level_within : (n : ℕ) → n < grid_side → (29 - leading_zeros w32 n) / 2 ≤ top_level
level_within n below =
    let (m, digits, fits, short) = leading_length 32 n (omega (arith, below)) in
    elim (cases_lt m (grid_bits + 1)) [
      | inl less ↦ omega (arith, digits, less)
      | inr more ↦ absurd (omega (arith, below, short, pow-le-pow_right {n = 2} (omega arith) more))
    ]
