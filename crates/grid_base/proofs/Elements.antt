-- This file shows what an element of a list is: the first, or one of the rest, whatever stands in for a missing one.
use Rattle.std.proofs.Common.{◌≡◌, ◌⊎◌, ℕ, zero, suc, ◌<◌, List, [], ◌∷◌, length, get_or, Contains, refl, inl, inr, arith}
use Rattle.std.proofs.lemmas.Option.{slice_get-get_or, get_or_from_slice_get}

-- ---- the first element of a list, and the later ones
pub Contains-here : {X : Type 0} (x : X) (xs : List X) → Contains (x ∷ xs) x
Contains-here x xs = (0, omega arith, refl)

pub Contains-later : {X : Type 0} (x : X) (xs : List X) (y : X) → Contains xs y → Contains (x ∷ xs) y
Contains-later x xs y (k, within, is) = (suc k, omega arith, is)

pub Contains-cases : {X : Type 0} (x : X) (xs : List X) (y : X) → Contains (x ∷ xs) y → (x ≡ y) ⊎ Contains xs y
Contains-cases x xs y (zero, within, is) = inl is
Contains-cases x xs y (suc k, within, is) = inr (k, omega arith, is)

pub Contains-nil : {X : Type 0} (y : X) → Contains {X = X} [] y → ⊥
Contains-nil y (k, within, is) = omega arith

-- ---- places in a list
-- within a list it is the same element that is got, whatever is named for a place beyond
pub same_place : {X : Type 0} (xs : List X) (i : ℕ) (d e : X) → i < length xs → get_or xs i d ≡ get_or xs i e
same_place xs i d e within = get_or_from_slice_get xs i (get_or xs i e) d (slice_get-get_or xs i e within)
