-- This file shows what an owner put in its place, or taken out, does to an ascending list of owners.
use Rattle.std.proofs.Common.{◌≡◌, ◌≢◌, ◌⊎◌, ◌↔◌, ℕ, zero, suc, ◌+◌, ◌<◌, ◌≤◌, List, length, get_or, Contains}
use Rattle.std.proofs.Common.{Result, Ok, Err, is_ok, IsTrue}
use Rattle.std.proofs.Common.{refl, sym, ap, ◌∙◌, subst, inl, inr, ⊎_elim, arith}
use Rattle.std.proofs.lemmas.Bool.{false≢true}
use Rattle.std.specs.List.{insert, remove}
use Rattle.std.specs.List.Sorted.{IsStrictlyIncreasing, IsBinarySearchResult}
use Rattle.std.specs.Ordering.{nat_cmp}
use Rattle.std.proofs.lemmas.List.{get_or_default}
use Rattle.std.proofs.lemmas.List.Edits.{length-insert, get_or-insert_below, get_or-insert_at, get_or-insert_above}
use Rattle.std.proofs.lemmas.List.Edits.{length-remove, get_or-remove_below, get_or-remove_above}
use Rattle.std.proofs.lemmas.List.Kept.{AllPairs-from_increasing}
use Rattle.std.proofs.lemmas.List.Sorted.{searched, IsPermutation-insert, IsPermutation-remove}
use Rattle.std.proofs.lemmas.List.Sorted.{IsPermutation-sym, Contains-permutation}
use Rattle.slab.proofs.SlabLemmas.{Contains-cons, Contains-cons_cases}

-- ---- places
below_or_not : (k i : ℕ) → (k < i) ⊎ (i ≤ k)
below_or_not k i = grind arith

-- k is below i, or is i, or comes behind some j from i on
three_ways : (k i : ℕ) → (k < i) ⊎ ((k ≡ i) ⊎ ((j : ℕ) × (k ≡ j + 1) × (i ≤ j)))
three_ways zero zero = inr (inl refl)
three_ways zero (suc i) = inl (omega arith)
three_ways (suc k) zero = inr (inr (k, omega arith, omega arith))
three_ways (suc k) (suc i) = elim (three_ways k i) [
  | inl less ↦ inl (omega arith)
  | inr (inl same) ↦ inr (inl (ap suc same))
  | inr (inr (j, is, above)) ↦ inr (inr (suc j, omega arith, omega arith))
]

-- i is the place of y: what stands before is less, and what stands from it on is greater
pub record IsPlaceOf (xs : List ℕ) (y i : ℕ) : Type 0 where
  pub within : i ≤ length xs
  pub before : (k : ℕ) → k < i → get_or xs k 0 < y
  pub behind : (k : ℕ) → i ≤ k → k < length xs → y < get_or xs k 0

-- later numbers of an ascending list are no less
rising : (xs : List ℕ) → IsStrictlyIncreasing xs → (i j : ℕ) → i ≤ j → j < length xs → get_or xs i 0 ≤ get_or xs j 0
rising xs up i j no_later within = ⊎_elim
    (λ less. omega (arith, AllPairs-from_increasing xs up i j 0 less within))
    (λ (same : i ≡ j). subst (λ k. get_or xs i 0 ≤ get_or xs k 0) same (omega arith))
    (less_or_same i j no_later)
  where
    less_or_same : (i j : ℕ) → i ≤ j → (i < j) ⊎ (i ≡ j)
    less_or_same i j no_later = grind arith

-- the number at one place of an ascending list is at no other
elsewhere : (xs : List ℕ) (i j : ℕ) → IsStrictlyIncreasing xs → i < length xs → j < length xs → i ≢ j
    → get_or xs i 0 ≡ get_or xs j 0 → ⊥
elsewhere xs i j up in_i in_j apart same =
    let pairs = AllPairs-from_increasing xs up in
    elim (three_ways i j) [
      | inl less ↦ absurd (omega (arith, pairs i j 0 less in_j))
      | inr (inl here) ↦ apart here
      | inr (inr (_, is, above)) ↦ absurd (omega (arith, pairs j i 0 (omega arith) in_i))
    ]

-- ---- searches
-- a search that found y
pub found_place : (xs : List ℕ) (y i : ℕ) → IsStrictlyIncreasing xs → IsBinarySearchResult (λ x. nat_cmp x y) xs (Ok i)
    → (i < length xs) × (get_or xs i 0 ≡ y)
found_place xs y i up answer = searched xs y (Ok i) answer (rising xs up)

-- a search that didn't find y
pub free_place : (xs : List ℕ) (y i : ℕ) → IsStrictlyIncreasing xs → IsBinarySearchResult (λ x. nat_cmp x y) xs (Err i)
    → IsPlaceOf xs y i
free_place xs y i up answer =
    let sides = searched xs y (Err i) answer (rising xs up) in
    record { within = sides.0; before = sides.1; behind = sides.2 }

-- what has a free place isn't there
pub absent : (xs : List ℕ) (y i : ℕ) → IsPlaceOf xs y i → Contains xs y → ⊥
absent xs y i place (k, within, is) = ⊎_elim
    (λ less. omega (arith, place.before k less, get_or_default xs k 0 y within))
    (λ above. omega (arith, place.behind k above within, get_or_default xs k 0 y within))
    (below_or_not k i)

-- a search tells whether y is there
pub found_there : (xs : List ℕ) (y : ℕ) (r : Result ℕ ℕ) → IsStrictlyIncreasing xs
    → IsBinarySearchResult (λ x. nat_cmp x y) xs r → IsTrue (is_ok r) ↔ Contains xs y
found_there xs y (Ok i) up answer =
    let found = found_place xs y i up answer in
    (λ h. (i, found.0, sym (get_or_default xs i 0 y found.0) ∙ found.1), λ there. refl)
found_there xs y (Err i) up answer =
    (λ h. absurd (false≢true h), λ there. absurd (absent xs y i (free_place xs y i up answer) there))

-- ---- a number put in its place
pub ascending_in_place : (xs : List ℕ) (y i : ℕ) → IsStrictlyIncreasing xs → IsPlaceOf xs y i
    → IsStrictlyIncreasing (insert xs i y)
ascending_in_place xs y i up place = λ k within.
    let more = length-insert xs i y place.within in
    let below = λ (k : ℕ) (less : k < i). get_or-insert_below xs i y 0 k less place.within in
    let at = get_or-insert_at xs i y 0 place.within in
    let above = λ (k : ℕ) (later : i ≤ k). get_or-insert_above xs i y 0 k later place.within in
    elim (three_ways k i) [
      | inl less ↦ elim (three_ways (k + 1) i) [
        | inl next ↦ rw (below k less, below (k + 1) next) (up k (omega arith))
        | inr (inl next) ↦ rw (below k less, next, at) (place.before k less)
        | inr (inr (j, is, later)) ↦ absurd (omega arith)
      ]
      | inr (inl here) ↦ rw (here, at, above i (omega arith)) (place.behind i (omega arith) (omega arith))
      | inr (inr (j, is, later)) ↦ rw (is, above j later, above (j + 1) (omega arith)) (up j (omega arith))
    ]

pub Contains-insert : (xs : List ℕ) (y i x : ℕ) → Contains (insert xs i y) x ↔ ((x ≡ y) ⊎ Contains xs x)
Contains-insert xs y i x =
    let moved = IsPermutation-insert xs i y in (
      λ there.
          let in_front = Contains-permutation _ _ x (IsPermutation-sym _ _ moved) there in
          ⊎_elim (λ same. inl (sym same)) (λ rest. inr rest) (Contains-cons_cases y x xs in_front),
      λ either.
          let in_front = ⊎_elim (λ same. (0, omega arith, sym same)) (Contains-cons y x xs) either in
          Contains-permutation _ _ x moved in_front,
    )

-- ---- a number taken out
-- it is there no more
gone : (xs : List ℕ) (i : ℕ) → IsStrictlyIncreasing xs → i < length xs → Contains (remove xs i) (get_or xs i 0) → ⊥
gone xs i up within (k, in_rest, is) =
    let y = get_or xs i 0 in
    let shorter = length-remove xs i within in
    ⊎_elim
    (λ (less : k < i).
    let at = rw (get_or-remove_below xs i y k less within) at is in
    elsewhere xs k i up (omega arith) within (omega arith) (get_or_default xs k 0 y (omega arith) ∙ at))
    (λ (above : i ≤ k).
    let at = rw (get_or-remove_above xs i y k above within) at is in
    elsewhere xs (k + 1) i up (omega arith) within (omega arith) (get_or_default xs (k + 1) 0 y (omega arith) ∙ at))
    (below_or_not k i)

-- and all others are
pub Contains-remove : (xs : List ℕ) (i x : ℕ) → IsStrictlyIncreasing xs → i < length xs
    → Contains (remove xs i) x ↔ (Contains xs x × (x ≢ get_or xs i 0))
Contains-remove xs i x up within =
    let y = get_or xs i 0 in
    let moved = IsPermutation-remove xs i y within (get_or_default xs i 0 y within) in (
      λ rest. (
        Contains-permutation _ _ x (IsPermutation-sym _ _ moved) (Contains-cons y x _ rest),
        λ same. gone xs i up within (subst (Contains (remove xs i)) same rest),
      ),
      λ (there, other).
          let in_front = Contains-permutation _ _ x moved there in
          ⊎_elim (λ here. absurd (other (sym here))) (λ rest. rest) (Contains-cons_cases y x _ in_front),
    )

-- the rest ascends
pub ascending_without : (xs : List ℕ) (i : ℕ) → IsStrictlyIncreasing xs → i < length xs → IsStrictlyIncreasing (remove xs i)
ascending_without xs i up within = λ k more.
    let shorter = length-remove xs i within in
    let below = λ (j : ℕ) (less : j < i). get_or-remove_below xs i 0 j less within in
    let above = λ (j : ℕ) (later : i ≤ j). get_or-remove_above xs i 0 j later within in
    ⊎_elim
    (λ (less : k < i). ⊎_elim
    (λ (next : k + 1 < i). rw (below k less, below (k + 1) next) (up k (omega arith)))
    (λ (over : i ≤ k + 1).
    rw (below k less, above (k + 1) over) (AllPairs-from_increasing xs up k (k + 1 + 1) 0 (omega arith) (omega arith)))
    (below_or_not (k + 1) i))
    (λ (later : i ≤ k). rw (above k later, above (k + 1) (omega arith)) (up (k + 1) (omega arith)))
    (below_or_not k i)
