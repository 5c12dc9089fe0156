-- This file shows that the last start that is at most index is that of its block.
use Rattle.std.proofs.Common.{◌≡◌, ℕ, zero, suc, ◌+◌, ◌-◌, ◌<◌, ◌≤◌, List, [], ◌∷◌, Some, length, get_or, slice_get, arith}
use Rattle.std.specs.List.Sorted.{IsPartitionPoint}
use Rattle.tiered_vector.specs.Blocks.{IsPlace}

-- the first start is 0, so there is one
pub one_there : (starts : List ℕ) (index n : ℕ) → slice_get starts 0 ≡ Some 0
    → IsPartitionPoint (λ k. k ≤ index) (λ k. index < k) starts n → 1 ≤ n
one_there [] index n first point = absurd cc
one_there (s ∷ starts) index zero first point =
    let is : s ≡ 0 = cc in
    let beyond : index < s = point.1 0 0 (omega arith) (omega arith) in
    absurd (omega arith)
one_there (s ∷ starts) index (suc n) first point = omega arith

module _ (starts : List ℕ) (index n : ℕ) (some : 1 ≤ n) (within : n ≤ length starts)
    (point : IsPartitionPoint (λ k. k ≤ index) (λ k. index < k) starts n) where
  pub start_before : get_or starts (n - 1) 0 ≤ index
  start_before = point.0 (n - 1) 0 (omega arith) (omega arith)

  pub is_place : IsPlace starts index (n - 1) (index - get_or starts (n - 1) 0)
  is_place = record {
    there = omega arith;
    behind = omega (arith, start_before);
    before_next = λ next. point.1 ((n - 1) + 1) 0 (omega arith) next;
  }
