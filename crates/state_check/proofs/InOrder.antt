-- This file shows that a list is in order where each item is with the next.
use Rattle.std.proofs.Common.{◌≡◌, ℕ, ◌+◌, ◌-◌, ◌<◌, ◌≤◌, List, length, get_or, AllPairs, sym, subst, ◌∙◌, inl, inr, arith}
use Rattle.std.proofs.lemmas.Bool.{cases_lt}
use Rattle.std.proofs.lemmas.List.Elements.{pair_read}
use Rattle.grid_base.specs.Point.{GridPoint, IsBefore}
use Rattle.grid_base.proofs.Elements.{same_place}

-- the first n items are in order
abbrev pub AreInOrder : {X : Type 0} → (X → X → Type 0) → List X → ℕ → Type 0
AreInOrder {X} R xs n = (j k : ℕ) (d : X) → j < k → k < n → R (get_or xs j d) (get_or xs k d)

-- points, by x and then by y
pub before_along : (p q r : GridPoint) → IsBefore p q → IsBefore q r → IsBefore p r
before_along p q r first second = grind arith

module _ {X : Type 0} (R : X → X → Type 0) where
  -- one is
  pub one_is : (xs : List X) → AreInOrder R xs 1
  one_is xs = λ j k d less within. absurd (omega arith)

  -- and all are where as many are as there are
  pub all_are : (xs : List X) (i : ℕ) → length xs ≤ i → AreInOrder R xs i → AllPairs R xs
  all_are xs i past order = λ j k d less within. order j k d less (omega arith)

  -- two neighbours of a list in order
  pub neighbours : (xs : List X) (i : ℕ) (x y : X) → 1 ≤ i → i < length xs → x ≡ get_or xs (i - 1) x → y ≡ get_or xs i y
      → AllPairs R xs → R x y
  neighbours xs i x y some within x_is y_is order =
      subst (λ (z : X). R x z) (same_place xs i x y within ∙ sym y_is)
      (subst (λ (z : X). R z (get_or xs i x)) (sym x_is) (order (i - 1) i x (omega arith) within))

module _ {X : Type 0} (R : X → X → Type 0) (along : (x y z : X) → R x y → R y z → R x z) where
  -- one more is
  pub goes_on : (xs : List X) (i : ℕ) (x y : X) → 1 ≤ i → i < length xs → x ≡ get_or xs (i - 1) x → y ≡ get_or xs i y → R x y
      → AreInOrder R xs i → AreInOrder R xs (i + 1)
  goes_on xs i x y some within x_is y_is next before j k d less k_within =
      let last : R (get_or xs (i - 1) d) (get_or xs i d) =
      pair_read xs R (i - 1) i x y (omega arith) within x_is y_is next d in
      elim (cases_lt k i) [
        | inl earlier ↦ before j k d less earlier
        | inr end ↦
            let k_is : i ≡ k = omega arith in
            subst (λ (n : ℕ). R (get_or xs j d) (get_or xs n d)) k_is (elim (cases_lt j (i - 1)) [
              | inl behind ↦ along (get_or xs j d) (get_or xs (i - 1) d) (get_or xs i d)
                  (before j (i - 1) d behind (omega arith)) last
              | inr beside ↦
                  let j_is : i - 1 ≡ j = omega arith in
                  subst (λ (n : ℕ). R (get_or xs n d) (get_or xs i d)) j_is last
            ])
      ]
