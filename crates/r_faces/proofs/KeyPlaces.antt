-- This file shows that a binary search finds a number that is among ascending ones.
use Rattle.std.proofs.Common.{◌≡◌, ◌⊎◌, ℕ, ◌<◌, ◌≤◌, List, length, get_or, slice_index, Contains, Result, Ok, Err, MatchResult}
use Rattle.std.proofs.Common.{subst, ◌∙◌, arith, inl, inr}
use Rattle.std.specs.List.Sorted.{IsBinarySearchResult, IsStrictlyIncreasing}
use Rattle.std.proofs.Common.{nat_cmp}
use Rattle.std.proofs.lemmas.List.Sorted.{searched}
use Rattle.std.proofs.lemmas.List.Kept.{AllPairs-from_increasing}
use Rattle.grid_base.proofs.Elements.{same_place}

rising : (keys : List ℕ) → IsStrictlyIncreasing keys → (i j : ℕ) → i ≤ j → j < length keys → get_or keys i 0 ≤ get_or keys j 0
rising keys up i j h l = by (less_or_same i j h)
  where
    less_or_same : (i j : ℕ) → i ≤ j → (i < j) ⊎ (i ≡ j)
    less_or_same i j h = grind arith

    by : (i < j) ⊎ (i ≡ j) → get_or keys i 0 ≤ get_or keys j 0
    by (inl k) = let u = AllPairs-from_increasing keys up i j 0 k l in omega (arith, u)
    by (inr e) = subst (λ (m : ℕ). get_or keys i 0 ≤ get_or keys m 0) e (omega arith)

pub key_at : (keys : List ℕ) (n : ℕ) (r : Result ℕ ℕ) (i : ℕ) → IsStrictlyIncreasing keys → IsBinarySearchResult (λ y. nat_cmp y n) keys r
    → Contains keys n → (r ≡ Ok i) ⊎ (r ≡ Err i) → (i < length keys) × (slice_index keys i ≡ n)
key_at keys n r i up answer there e = by e
  where
    all : MatchResult r (λ i. (i < length keys) × (get_or keys i 0 ≡ n))
        (λ i. (i ≤ length keys) × ((k : ℕ) → k < i → get_or keys k 0 < n) × ((k : ℕ) → i ≤ k → k < length keys → n < get_or keys k 0))
    all = searched keys n r answer (rising keys up)

    below_or_not : (k i : ℕ) → (k < i) ⊎ (i ≤ k)
    below_or_not k i = grind arith

    here : get_or keys there.0 0 ≡ n
    here = same_place keys there.0 0 n there.1 ∙ there.2

    never : (i ≤ length keys) × ((k : ℕ) → k < i → get_or keys k 0 < n) × ((k : ℕ) → i ≤ k → k < length keys → n < get_or keys k 0) → ⊥
    never p = either (below_or_not there.0 i)
      where
        either : (there.0 < i) ⊎ (i ≤ there.0) → ⊥
        either (inl l) = let q = p.1 there.0 l in omega (arith, q, here)
        either (inr l) = let q = p.2 there.0 l there.1 in omega (arith, q, here)

    by : (r ≡ Ok i) ⊎ (r ≡ Err i) → (i < length keys) × (slice_index keys i ≡ n)
    by (inl ok) = subst (λ (a : Result ℕ ℕ). MatchResult a (λ i. (i < length keys) × (get_or keys i 0 ≡ n))
        (λ i. (i ≤ length keys) × ((k : ℕ) → k < i → get_or keys k 0 < n) × ((k : ℕ) → i ≤ k → k < length keys → n < get_or keys k 0)))
        ok all
    by (inr err) = absurd (never (subst (λ (a : Result ℕ ℕ). MatchResult a (λ i. (i < length keys) × (get_or keys i 0 ≡ n))
        (λ i. (i ≤ length keys) × ((k : ℕ) → k < i → get_or keys k 0 < n) × ((k : ℕ) → i ≤ k → k < length keys → n < get_or keys k 0))) err
        all))
