-- This file shows how a property of each element goes over parts of a list.
use Rattle.std.proofs.Common.{◌≡◌, ◌⊎◌, ℕ, ◌<◌, List, [], ◌∷◌, ◌++◌, refl, sym, ap, subst, inl, inr, arith}
use Rattle.grid_base.proofs.Signs.{three_ways}
use Rattle.plane_cells.specs.Steps.{In, Each}

pub each_left : (P : ℕ → Type 0) (A B : List ℕ) → Each P (A ++ B) → Each P A
each_left P [] B h = tt
each_left P (i ∷ A) B h = (h.0, each_left P A B h.1)

pub each_right : (P : ℕ → Type 0) (A B : List ℕ) → Each P (A ++ B) → Each P B
each_right P [] B h = h
each_right P (i ∷ A) B h = each_right P A B h.1

pub each_joined : (P : ℕ → Type 0) (A B : List ℕ) → Each P A → Each P B → Each P (A ++ B)
each_joined P [] B h k = k
each_joined P (i ∷ A) B h k = (h.0, each_joined P A B h.1 k)

pub each_map : (P Q : ℕ → Type 0) (A : List ℕ) → ((i : ℕ) → P i → Q i) → Each P A → Each Q A
each_map P Q [] f h = tt
each_map P Q (i ∷ A) f h = (f i h.0, each_map P Q A f h.1)

pub each_both : (P Q R : ℕ → Type 0) (A : List ℕ) → ((i : ℕ) → P i → Q i → R i) → Each P A → Each Q A → Each R A
each_both P Q R [] f h k = tt
each_both P Q R (i ∷ A) f h k = (f i h.0 k.0, each_both P Q R A f h.1 k.1)

pub each_three : (P Q R S : ℕ → Type 0) (A : List ℕ) → ((i : ℕ) → P i → Q i → R i → S i) → Each P A → Each Q A → Each R A → Each S A
each_three P Q R S [] f h k l = tt
each_three P Q R S (i ∷ A) f h k l = (f i h.0 k.0 l.0, each_three P Q R S A f h.1 k.1 l.1)

pub each_at : (P : ℕ → Type 0) (A : List ℕ) (i : ℕ) → Each P A → In i A → P i
each_at P [] i h m = absurd m
each_at P (j ∷ A) i h (inl e) = subst P (sym e) h.0
each_at P (j ∷ A) i h (inr m) = each_at P A i h.1 m

pub each_in : (A : List ℕ) → Each (λ i. In i A) A
each_in [] = tt
each_in (i ∷ A) = (inl refl, each_map (λ j. In j A) (λ j. (j ≡ i) ⊎ In j A) A (λ j m. inr m) (each_in A))

pub in_left : (i : ℕ) (A B : List ℕ) → In i A → In i (A ++ B)
in_left i [] B m = absurd m
in_left i (j ∷ A) B (inl e) = inl e
in_left i (j ∷ A) B (inr m) = inr (in_left i A B m)

pub in_right : (i : ℕ) (A B : List ℕ) → In i B → In i (A ++ B)
in_right i [] B m = m
in_right i (j ∷ A) B m = inr (in_right i A B m)

pub in_cases : (i : ℕ) (A B : List ℕ) → In i (A ++ B) → In i A ⊎ In i B
in_cases i [] B m = inr m
in_cases i (j ∷ A) B (inl e) = inl (inl e)
in_cases i (j ∷ A) B (inr m) = elim (in_cases i A B m) [ inl h ↦ inl (inr h) | inr h ↦ inr h ]

pub joined_twice : (A B C : List ℕ) → (A ++ B) ++ C ≡ A ++ (B ++ C)
joined_twice [] B C = refl
joined_twice (i ∷ A) B C = ap (λ (l : List ℕ). i ∷ l) (joined_twice A B C)

-- two numbers are one, or not
pub same_or : (m n : ℕ) → (m ≡ n) ⊎ (m ≡ n → ⊥)
same_or m n = elim (three_ways m n) [
  | inl h ↦ inr (λ e. less_self m n h e)
  | inr o ↦ elim o [ inl h ↦ inl h | inr h ↦ inr (λ e. less_self n m h (sym e)) ]
]
  where
    less_self : (m n : ℕ) → m < n → m ≡ n → ⊥
    less_self m n h e = omega (arith, h, e)
