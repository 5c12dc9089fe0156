-- That the range between two numbers times d is the range from the lesser times d to the greater times d.
use Rattle.std.proofs.Common.{ℕ, ◌*◌, ◌≤◌, min, max, ap, arith, inl, inr}
use Rattle.grid_base.specs.Point.{IsFromTo}
use Rattle.grid_base.proofs.Turns.{in_order}
use Rattle.grid_base.proofs.Balances.{factor_keeps}

-- a number that lies from a * d to b * d lies from the lesser times d to the greater times d
pub scaled_between : (a b d n : ℕ) → IsFromTo (a * d) (b * d) n → (min a b * d ≤ n) × (n ≤ max a b * d)
scaled_between a b d n between = elim (in_order a b) [
  | inl up ↦
      let low = ap (λ (m : ℕ). m * d) {x = min a b} {y = a} (omega arith) in
      let high = ap (λ (m : ℕ). m * d) {x = max a b} {y = b} (omega arith) in
      omega (arith, factor_keeps a b d up)
  | inr down ↦
      let low = ap (λ (m : ℕ). m * d) {x = min a b} {y = b} (omega arith) in
      let high = ap (λ (m : ℕ). m * d) {x = max a b} {y = a} (omega arith) in
      omega (arith, factor_keeps b a d down)
]
