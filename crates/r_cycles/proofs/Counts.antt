-- This file shows how many elements of a list pass a test.
use Rattle.std.proofs.Common.{◌≡◌, ℕ, ◌+◌, ◌<◌, Bool, true, false, cond, refl, sym, ap, ap₂, ◌∙◌, inl, inr, arith}
use Rattle.std.proofs.Common.{List, [], ◌∷◌, Contains, count_by, sum_by}
use Rattle.std.proofs.lemmas.List.Sums.{sum_by-cons}
use Rattle.grid_base.proofs.Elements.{Contains-here, Contains-later, Contains-cases, Contains-nil}
use Rattle.r_cycles.specs.Left.{one_if}

-- one more element is one more that passes, or not
pub count_by-cons : {X : Type 0} (f : X → Bool) (x : X) (xs : List X) → count_by f (x ∷ xs) ≡ one_if (f x) + count_by f xs
count_by-cons f x xs = sum_by-cons (λ y. cond (f y) 1 0) x xs

-- where none passes, the count is 0
pub count_by-none : {X : Type 0} (f : X → Bool) (xs : List X) → ((x : X) → Contains xs x → f x ≡ false) → count_by f xs ≡ 0
count_by-none f [] none = refl
count_by-none f (x ∷ xs) none =
    let rest = count_by-none f xs (λ y there. none y (Contains-later x xs y there)) in
    let this = ap (λ b. one_if b) (none x (Contains-here x xs)) in
    omega (arith, rest, this, count_by-cons f x xs)

-- an element that passes is counted
pub count_by-some : {X : Type 0} (f : X → Bool) (xs : List X) (x : X) → Contains xs x → f x ≡ true → 0 < count_by f xs
count_by-some f [] x there passes = absurd (Contains-nil x there)
count_by-some f (y ∷ xs) x there passes = elim (Contains-cases y xs x there) [
  | inl same ↦
      let one = ap (λ z. one_if (f z)) same ∙ ap (λ b. one_if b) passes in omega (arith, one, count_by-cons f y xs)
  | inr rest ↦
      let more = count_by-some f xs x rest passes in omega (arith, more, count_by-cons f y xs)
]

-- an element that passes, in a list
abbrev pub Passing : {X : Type 0} → (X → Bool) → List X → Type 0
Passing {X} f xs = (x : X) × Contains xs x × (f x ≡ true)

passing_later : {X : Type 0} (f : X → Bool) (y : X) (xs : List X) → Passing f xs → Passing f (y ∷ xs)
passing_later f y xs (x, there, passes) = (x, Contains-later y xs x there, passes)

-- where some are counted, one passes
pub count_by-found : {X : Type 0} (f : X → Bool) (xs : List X) → 0 < count_by f xs → Passing f xs
count_by-found {X} f [] some = absurd (omega (arith, some))
count_by-found {X} f (x ∷ xs) some = by (f x) refl (count_by-found f xs)
  where
    by : (b : Bool) → f x ≡ b → (0 < count_by f xs → Passing f xs) → Passing f (x ∷ xs)
    by true e rest = (x, Contains-here x xs, e)
    by false e rest =
        let none = ap (λ b. one_if b) e in
        let later : 0 < count_by f xs = omega (arith, some, none, count_by-cons f x xs) in
        passing_later f x xs (rest later)

-- tests that agree count the same
pub count_by-agree : {X : Type 0} (f g : X → Bool) → ((x : X) → f x ≡ g x) → (xs : List X) → count_by f xs ≡ count_by g xs
count_by-agree f g agree [] = refl
count_by-agree f g agree (x ∷ xs) =
    count_by-cons f x xs ∙ ap₂ (λ b n. one_if b + n) (agree x) (count_by-agree f g agree xs) ∙ sym (count_by-cons g x xs)

pub sum_by-agree : {X : Type 0} (f g : X → ℕ) → ((x : X) → f x ≡ g x) → (xs : List X) → sum_by f xs ≡ sum_by g xs
sum_by-agree f g agree [] = refl
sum_by-agree f g agree (x ∷ xs) =
    sum_by-cons f x xs ∙ ap₂ (λ m n. m + n) (agree x) (sum_by-agree f g agree xs) ∙ sym (sum_by-cons g x xs)
