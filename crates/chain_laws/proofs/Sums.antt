-- This file shows how a sum over a list compares with the sum over the list that `map` makes, and with another sum.
use Rattle.std.proofs.Common.{◌≡◌, ℕ, suc, ◌<◌, ◌≤◌, List, [], ◌∷◌, map, All, Any, refl, arith, inl, inr}
use Rattle.std.specs.List.{sum_by}
use Rattle.std.proofs.lemmas.List.Sums.{sum_by-cons}
use Rattle.chain_laws.proofs.Elements.{Any-nil, Any-cons_cases}

pub sum_stays : {X : Type 0} (f : X → ℕ) (g : X → X) → ((x : X) → f (g x) ≡ f x) → (xs : List X)
    → sum_by f (map g xs) ≡ sum_by f xs
sum_stays f g same [] = refl
sum_stays f g same (x ∷ xs) =
    omega (arith, sum_by-cons f x xs, sum_by-cons f (g x) (map g xs), same x, sum_stays f g same xs)

pub sum_rises : {X : Type 0} (f : X → ℕ) (g : X → X) → ((x : X) → f x ≤ f (g x)) → (xs : List X)
    → sum_by f xs ≤ sum_by f (map g xs)
sum_rises f g keeps [] = omega arith
sum_rises f g keeps (x ∷ xs) =
    omega (arith, sum_by-cons f x xs, sum_by-cons f (g x) (map g xs), keeps x, sum_rises f g keeps xs)

pub sum_grows : {X : Type 0} (f : X → ℕ) (g : X → X) → ((x : X) → f x ≤ f (g x)) → (xs : List X)
    → Any (λ x. f x < f (g x)) xs → sum_by f xs < sum_by f (map g xs)
sum_grows {X} f g keeps [] some = absurd (Any-nil (λ (x : X). f x < f (g x)) some)
sum_grows {X} f g keeps (x ∷ xs) some = elim (Any-cons_cases (λ (y : X). f y < f (g y)) x xs some) [
  | inl first ↦ omega (arith, sum_by-cons f x xs, sum_by-cons f (g x) (map g xs), first, sum_rises f g keeps xs)
  | inr later ↦ omega (arith, sum_by-cons f x xs, sum_by-cons f (g x) (map g xs), keeps x, sum_grows f g keeps xs later)
]

pub sum_bound : {X : Type 0} (P : X → Type 0) (f g : X → ℕ) → ((x : X) → P x → f x ≤ g x) → (xs : List X) → All P xs
    → sum_by f xs ≤ sum_by g xs
sum_bound P f g below [] all = omega arith
sum_bound {X} P f g below (x ∷ xs) all =
    let rest : All P xs = λ k d within. all (suc k) d (omega arith) in
    let first : P x = all 0 x (omega arith) in
    omega (arith, sum_by-cons f x xs, sum_by-cons g x xs, below x first, sum_bound P f g below xs rest)
