-- This file shows what tests that are joined say, and that a test says no two things.
use Rattle.std.proofs.Common.{◌≡◌, ◌⊎◌, ℕ, ◌==◌, ◌&&◌, ◌||◌, Bool, true, false, refl, inl, inr, arith}

-- both of two tests passed
pub both_true : (b c : Bool) → (b && c) ≡ true → (b ≡ true) × (c ≡ true)
both_true true c h = (refl, h)
both_true false c h = cc

-- one of two tests passed
pub one_true : (b c : Bool) → (b || c) ≡ true → (b ≡ true) ⊎ (c ≡ true)
one_true true c h = inl refl
one_true false c h = inr h

pub either_true : (b c : Bool) → (b ≡ true) ⊎ (c ≡ true) → (b || c) ≡ true
either_true true c h = refl
either_true false c (inl h) = cc
either_true false c (inr h) = h

-- a test that passed didn't fail
pub true_not_false : {b : Bool} → b ≡ true → b ≡ false → ⊥
true_not_false h k = cc

-- and one that can't pass failed
pub is_false : (b : Bool) → (b ≡ true → ⊥) → b ≡ false
is_false true h = absurd (h refl)
is_false false h = refl

-- the test of two naturals
pub same_number : (m n : ℕ) → (m == n) ≡ true → m ≡ n
same_number m n h = grind arith

pub number_itself : (m n : ℕ) → m ≡ n → (m == n) ≡ true
number_itself m n h = grind arith
