use Rattle.std.proofs.Common.{◌≡◌, ℕ, List, length}
use Rattle.plane_cells.specs.Steps.{Each}
use Rattle.plane_cells.proofs.sweep.begin.Given as goal

-- as many zeros as the loop has come
pub record AreZeros (n : ℕ) (l : List ℕ) : Type 0 where
  pub count : length l ≡ n
  pub zero : Each (λ x. x ≡ 0) l

abbrev pub invariant-loop : goal.invariant-loop
invariant-loop l = AreZeros l.counter l.right.items
