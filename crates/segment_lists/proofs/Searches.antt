-- This file shows that a binary search in an ascending list tells whether an element is in it.
use Rattle.std.proofs.Common.{◌≡◌, ◌⊎◌, ◌↔◌, ℕ, ◌<◌, ◌≤◌, List, length, get_or, Contains, AllPairs, Result, Ok, Err, is_ok}
use Rattle.std.proofs.Common.{IsTrue, true, false, Ordering, Less, Equal, Greater, refl, sym, ap, subst, ◌∙◌, arith, inl, inr}
use Rattle.std.specs.Ordering.{ordering_reverse, ordering_index}
use Rattle.std.specs.Cmp.{IsTotalOrder}
use Rattle.std.specs.List.Sorted.{IsBinarySearchResult, IsSearchInRange, IsNonDecreasingBy}
use Rattle.std.proofs.lemmas.Cmp.{tied_itself}
use Rattle.grid_base.specs.Segment.{GridSegment, IsSegmentBefore, segment_cmp}
use Rattle.grid_base.proofs.Orders.{segment_cmp-total, segment_cmp-Less, segment_cmp-Equal}

-- ---- any order
module _ {X : Type 0} (R : X → X → Ordering) (total : IsTotalOrder R) (exact : (x y : X) → R x y ≡ Equal → x ≡ y) where
  -- what is less than y compares with any x no higher than y does
  index_rises : (a b x : X) → R a b ≡ Less → ordering_index (R a x) ≤ ordering_index (R b x)
  index_rises a b x h = by (R b x) refl
    where
      least : (o : Ordering) → o ≡ Less → (n : ℕ) → ordering_index o ≤ n
      least Less e n = omega arith
      least Equal e n = cc
      least Greater e n = cc

      at_most : (o : Ordering) → ordering_index o ≤ 2
      at_most Less = omega arith
      at_most Equal = omega arith
      at_most Greater = omega arith

      turned : R x a ≡ Greater → R a x ≡ Less
      turned e = total.antisymm a x ∙ ap ordering_reverse e

      by : (o : Ordering) → R b x ≡ o → ordering_index (R a x) ≤ ordering_index (R b x)
      by Less e = least (R a x) (total.trans a b x h e) _
      by Equal e = least (R a x) (turned (sym (total.congr b x a e) ∙ total.antisymm b a ∙ ap ordering_reverse h)) _
      by Greater e = subst (λ (o : Ordering). ordering_index (R a x) ≤ ordering_index o) (sym e) (at_most (R a x))

  rising : (xs : List X) (x : X) → AllPairs (λ y z. R y z ≡ Less) xs
      → IsNonDecreasingBy (λ y. ordering_index (R y x)) xs
  rising xs x up i j d order within = elim (less_or_same i j order) [
    | inl less ↦ index_rises (get_or xs i d) (get_or xs j d) x (up i j d less within)
    | inr same ↦ subst (λ k. ordering_index (R (get_or xs i d) x) ≤ ordering_index (R (get_or xs k d) x)) same (omega arith)
  ]
    where
      less_or_same : (i j : ℕ) → i ≤ j → (i < j) ⊎ (i ≡ j)
      less_or_same i j h = grind arith

  below_or_not : (k i : ℕ) → (k < i) ⊎ (i ≤ k)
  below_or_not k i = grind arith

  -- the search tells whether x is there
  pub found : (xs : List X) (x : X) (r : Result ℕ ℕ) → AllPairs (λ y z. R y z ≡ Less) xs
      → IsSearchInRange r (length xs) → IsBinarySearchResult (λ y. R y x) xs r
      → IsTrue (is_ok r) ↔ Contains xs x
  found xs x (Ok i) up within answer = (λ h. (i, within, exact _ _ (answer x)), λ c. refl)
  found xs x (Err i) up within answer = (
    λ h. cc,
    λ c.
        let parts = answer (rising xs x up) in
        let tie = subst (λ y. R y x ≡ Equal) (sym c.2) (tied_itself total x) in
        elim (below_or_not c.0 i) [
          | inl less ↦ absurd (not_less (sym tie ∙ parts.0 c.0 x (omega arith) less))
          | inr above ↦ absurd (not_greater (sym tie ∙ parts.1 c.0 x above c.1))
        ],
  )
    where
      not_less : Equal ≡ Less → ⊥
      not_less e = cc

      not_greater : Equal ≡ Greater → ⊥
      not_greater e = cc

-- ---- segments
pub segment_found : (xs : List GridSegment) (s : GridSegment) (r : Result ℕ ℕ) → AllPairs IsSegmentBefore xs
    → IsSearchInRange r (length xs) → IsBinarySearchResult (λ t. segment_cmp t s) xs r
    → IsTrue (is_ok r) ↔ Contains xs s
segment_found xs s r up within answer =
    found segment_cmp segment_cmp-total (λ t u. (segment_cmp-Equal t u).0) xs s r (λ i j d h k. (segment_cmp-Less _ _).1 (up i j d h k))
    within answer

-- where the segment is in the list, the search finds its place
pub segment_at : (xs : List GridSegment) (s : GridSegment) (r : Result ℕ ℕ) (i : ℕ) → AllPairs IsSegmentBefore xs
    → IsSearchInRange r (length xs) → IsBinarySearchResult (λ t. segment_cmp t s) xs r → Contains xs s → (r ≡ Ok i) ⊎ (r ≡ Err i)
    → (i < length xs) × (get_or xs i s ≡ s)
unfolding segment_found found
segment_at xs s r i up within answer there e = elim e [
  | inl ok ↦
      let at = (segment_found xs s (Ok i) up (subst (λ r. IsSearchInRange r (length xs)) ok within)
      (subst (λ r. IsBinarySearchResult (λ t. segment_cmp t s) xs r) ok answer)).0 refl in (at.1, at.2)
  | inr err ↦ absurd (never (subst (λ r. IsTrue (is_ok r)) err ((segment_found xs s r up within answer).1 there)))
]
  where
    never : false ≡ true → ⊥
    never e = cc
