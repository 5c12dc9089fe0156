-- This file shows what a binary search finds in a list along which a number rises.
use Rattle.std.proofs.Common.{◌≡◌, ◌≢◌, ◌⊎◌, ℕ, ◌<◌, ◌≤◌, List, Result, Ok, Err, MatchOption, length, get_or}
use Rattle.std.proofs.Common.{nat_cmp, Less, Greater, zero-le, sym, ap, inl, inr, arith}
use Rattle.std.specs.List.{All, AllPairs, HoldsAt}
use Rattle.std.specs.List.Sorted.{IsSearchInRange, IsBinarySearchResult, IsNonDecreasingBy}
use Rattle.std.specs.Ordering.{ordering_index}
use Rattle.std.specs.Result.{result_ok}
use Rattle.std.proofs.lemmas.Bool.Decides.{nat_tests}
use Rattle.std.proofs.lemmas.Cmp.{ranked}

below : (m n : ℕ) → nat_cmp m n ≡ Less → m ≢ n
below m n h = grind (arith, nat_tests)

above : (m n : ℕ) → nat_cmp m n ≡ Greater → m ≢ n
above m n h = grind (arith, nat_tests)

parts : (k i : ℕ) → (k < i) ⊎ (i ≤ k)
parts k i = grind arith

-- the number rises along the list
abbrev pub Rises : {X : Type 0} → (X → ℕ) → List X → Type 0
Rises number xs = AllPairs (λ x y. number x < number y) xs

-- the number of the element at k is n
pub record HasAt {X : Type 0} (number : X → ℕ) (xs : List X) (n k : ℕ) : Type 0 where
  pub within : k < length xs
  pub has : HoldsAt (λ x. number x ≡ n) xs k

-- the numbers compare with n in the order of the list
comparisons_rise : {X : Type 0} (number : X → ℕ) (xs : List X) → Rises number xs → (n : ℕ)
    → IsNonDecreasingBy (λ x. ordering_index (nat_cmp (number x) n)) xs
comparisons_rise number xs rises n i j d le within =
    let numbers_rise : number (get_or xs i d) ≤ number (get_or xs j d) =
    grind (arith, rises i j d, λ (same : i ≡ j). ap (λ k. number (get_or xs k d)) same) in
    grind (arith, nat_tests)

-- two places with one number are one place
pub one_place_for_a_number : {X : Type 0} (number : X → ℕ) (xs : List X) → Rises number xs → (i k : ℕ) (d : X)
    → i < length xs → k < length xs → number (get_or xs i d) ≡ number (get_or xs k d) → i ≡ k
one_place_for_a_number number xs rises i k d within inside same = grind (arith, rises i k d, rises k i d)

-- the place of the number, or no element has it
pub searched : {X : Type 0} (number : X → ℕ) (xs : List X) → Rises number xs → (n : ℕ) (r : Result ℕ ℕ)
    → IsSearchInRange r (length xs) → IsBinarySearchResult (λ x. nat_cmp (number x) n) xs r
    → MatchOption (result_ok r) (All (λ x. number x ≢ n) xs) (HasAt number xs n)
searched number xs rises n (Ok i) within equal = record { within = within; has = λ d. ranked _ n _ (sym (equal d)) }
searched number xs rises n (Err i) within parted = λ k d inside.
    let places = parted (comparisons_rise number xs rises n) in
    elim (parts k i) [
      | inl before ↦ below _ n (places.0 k d zero-le before)
      | inr from ↦ above _ n (places.1 k d from inside)
    ]
