-- This file shows that ids in a row rise.
use Rattle.std.proofs.Common.{◌≡◌, ℕ, zero, suc, ◌+◌, ◌<◌, List, [], ◌∷◌, ◌++◌, length, get_or, refl, ap, ◌∙◌, AllPairs, arith}
use Rattle.realm_insert.specs.Changes.{ids_from}

-- one id more
pub ids_next : (first n : ℕ) → ids_from first (n + 1) ≡ ids_from first n ++ (first + n) ∷ []
ids_next first zero = let last : first ≡ first + zero = omega arith in ap (λ (id : ℕ). id ∷ []) last
ids_next first (suc n) =
    let more : suc n + 1 ≡ suc (n + 1) = omega arith in
    let last : (first + 1) + n ≡ first + suc n = omega arith in
    rw more (ap (λ (l : List ℕ). first ∷ l)
    (ids_next (first + 1) n ∙ ap (λ (id : ℕ). ids_from (first + 1) n ++ id ∷ []) last))

pub length_is : (first n : ℕ) → length (ids_from first n) ≡ n
length_is first zero = refl
length_is first (suc n) = ap suc (length_is (first + 1) n)

-- the id at a place
pub id_at : (first n i d : ℕ) → i < n → get_or (ids_from first n) i d ≡ first + i
id_at first zero i d within = absurd (omega arith)
id_at first (suc n) zero d within = omega arith
id_at first (suc n) (suc i) d within =
    let later : get_or (ids_from (first + 1) n) i d ≡ (first + 1) + i = id_at (first + 1) n i d (omega arith) in
    let same : (first + 1) + i ≡ first + suc i = omega arith in
    later ∙ same

pub ids_rise : (first n : ℕ) → AllPairs (λ j k. j < k) (ids_from first n)
ids_rise first n = λ i j d before within.
    let inside : j < n = omega (arith, length_is first n) in
    omega (arith, id_at first n i d (omega arith), id_at first n j d inside)
