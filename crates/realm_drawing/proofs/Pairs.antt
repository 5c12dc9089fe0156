-- This file shows what holds of pairs of elements of a list, one behind the other, where the list has two parts.
use Rattle.std.proofs.Common.{◌⊎◌, suc}
use Rattle.std.proofs.Common.{List, [], ◌∷◌, ◌++◌, get_or, AllPairs, Contains}
use Rattle.std.proofs.Common.{refl, subst, inl, inr, arith}
use Rattle.std.proofs.lemmas.List.Elements.{Contains-append_left, Contains-append_right, Contains-append_cases, Contains-get_or}
use Rattle.std.proofs.lemmas.List.Kept.{AllPairs-cons}
use Rattle.grid_base.proofs.Elements.{Contains-later, Contains-cases, Contains-nil}
use Rattle.chain_laws.proofs.Elements.{Contains-head}

module _ {X : Type 0} (R : X → X → Type 0) where
  -- the first goes with each later one
  pub pairs_first : (x : X) (xs : List X) → AllPairs R (x ∷ xs) → (y : X) → Contains xs y → R x y
  pairs_first x xs pairs y (k, within, is) = subst (λ (z : X). R x z) is (pairs 0 (suc k) y (omega arith) (omega (arith, within)))

  pairs_later : (x : X) (xs : List X) → AllPairs R (x ∷ xs) → AllPairs R xs
  pairs_later x xs pairs i j d before within = pairs (suc i) (suc j) d (omega (arith, before)) (omega (arith, within))

  -- each of the one part goes with each of the other
  pub pairs_across : (xs ys : List X) → AllPairs R (xs ++ ys) → (x y : X) → Contains xs x → Contains ys y → R x y
  pairs_across [] ys pairs x y there later = absurd (Contains-nil x there)
  pairs_across (z ∷ xs) ys pairs x y there later = elim (Contains-cases z xs x there) [
    | inl first ↦
        subst (λ (w : X). R w y) first (pairs_first z (xs ++ ys) pairs y (Contains-append_right xs ys y later))
    | inr rest ↦ pairs_across xs ys (pairs_later z (xs ++ ys) pairs) x y rest later
  ]

  -- the pairs of a part
  pub pairs_tail : (xs ys : List X) → AllPairs R (xs ++ ys) → AllPairs R ys
  pairs_tail [] ys pairs = pairs
  pairs_tail (x ∷ xs) ys pairs = pairs_tail xs ys (pairs_later x (xs ++ ys) pairs)

  pub pairs_front : (xs ys : List X) → AllPairs R (xs ++ ys) → AllPairs R xs
  pairs_front [] ys pairs = λ i j d before within. absurd (omega (arith, within))
  pairs_front (x ∷ xs) ys pairs = AllPairs-cons R x xs
      (λ k d within. pairs_first x (xs ++ ys) pairs (get_or xs k d)
      (Contains-append_left xs ys (get_or xs k d) (Contains-get_or xs k d within)))
      (pairs_front xs ys (pairs_later x (xs ++ ys) pairs))

  -- so two lists make one
  pub pairs_joined : (xs ys : List X) → AllPairs R xs → AllPairs R ys → ((x y : X) → Contains xs x → Contains ys y → R x y)
      → AllPairs R (xs ++ ys)
  pairs_joined [] ys of_xs of_ys across = of_ys
  pairs_joined (x ∷ xs) ys of_xs of_ys across = AllPairs-cons R x (xs ++ ys)
      (λ k d within. with_one (get_or (xs ++ ys) k d) (Contains-append_cases xs ys (get_or (xs ++ ys) k d)
      (Contains-get_or (xs ++ ys) k d within)))
      (pairs_joined xs ys (pairs_later x xs of_xs) of_ys (λ v w there later. across v w (Contains-later x xs v there) later))
    where
      with_one : (y : X) → Contains xs y ⊎ Contains ys y → R x y
      with_one y (inl own) = pairs_first x xs of_xs y own
      with_one y (inr other) = across x y (Contains-head x xs x refl) other
