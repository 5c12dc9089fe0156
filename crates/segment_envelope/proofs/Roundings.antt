-- That a number n / w, rounded to the nearest whole number, moves by at most half a step, and what a tie says of it.
use Rattle.std.proofs.Common.{◌≡◌, ◌≢◌, ◌⊎◌, ℕ, ◌+◌, ◌*◌, ◌/◌, ◌%◌, ◌<◌, ◌≤◌, Bool, true, false, ap, arith, if◌then◌else◌, inl, inr}
use Rattle.std.proofs.Math.Nat.{lt_of_mul-lt-mul_right, div-mul-le_self, lt-div-mul-add}
use Rattle.std.proofs.lemmas.Bool.{and_parts, and_cases, eqb-true, eqb-false}
use Rattle.grid_base.specs.Places.{RationalPoint}
use Rattle.grid_base.specs.MeetPoint.{nearest, is_centre}
use Rattle.segment_envelope.proofs.HalfSteps.{IsHalfStep}

-- m is n / w, rounded to the nearest whole number, and up where two are as near
pub record IsRounded (n w m : ℕ) : Type 0 where
  pub low : 2 * w * m ≤ 2 * n + w
  pub high : 2 * n + w < 2 * w * m + 2 * w

-- nearest does so
pub nearest_is_rounded : (n w : ℕ) → 0 < w → IsRounded n w (nearest n w)
nearest_is_rounded n w real =
    let low = div-mul-le_self (2 * n + w) (2 * w) in
    let high = lt-div-mul-add {a = 2 * n + w} {b = 2 * w} (omega arith) in
    record { low = omega arith; high = omega arith }

-- a rounded number moves by at most half a step
pub rounded_half : (n w m : ℕ) → IsRounded n w m → IsHalfStep n w m
rounded_half n w m rounded = record { back = rounded.low; forth = omega (arith, rounded.high) }

-- a whole difference of two numbers is that of the rounded ones
pub difference_rounded : (w x y a b m n : ℕ) → 0 < w → y + a * w ≡ x + b * w → IsRounded x w m → IsRounded y w n → n + a ≡ m + b
difference_rounded w x y a b m n real same column row =
    let not_more = lt_of_mul-lt-mul_right (2 * w) {m = n + a} {n = m + b + 1} (omega (arith, row.low, column.high)) in
    let not_less = lt_of_mul-lt-mul_right (2 * w) {m = m + b} {n = n + a + 1} (omega (arith, column.low, row.high)) in
    omega arith

-- a whole sum of two numbers is that of the rounded ones, where not both were rounded up by half a step
pub sum_rounded : (w x y a m n : ℕ) → 0 < w → y + x ≡ a * w → IsRounded x w m → IsRounded y w n
    → (2 * w * m ≢ 2 * x + w) ⊎ (2 * w * n ≢ 2 * y + w) → n + m ≡ a
sum_rounded w x y a m n real same column row apart =
    let below : 2 * w * m + 2 * w * n < 2 * x + 2 * y + 2 * w = elim apart [
      | inl across ↦ omega (arith, column.low, row.low)
      | inr up ↦ omega (arith, column.low, row.low)
    ] in
    let not_more = lt_of_mul-lt-mul_right (2 * w) {m = n + m} {n = a + 1} (omega arith) in
    let not_less = lt_of_mul-lt-mul_right (2 * w) {m = a} {n = n + m + 1} (omega (arith, column.high, row.high)) in
    omega arith

-- ---- ties
-- where n / w lies between two whole numbers at the same distance, n is its whole part and a half
pub tie_is : (n w : ℕ) → 0 < w → 2 * (n % w) ≡ w → 2 * n ≡ 2 * w * (n / w) + w
tie_is n w real tie = omega arith

-- a number that is rounded up by half a step lies so
pub tie_by : (n w m : ℕ) → 0 < w → 2 * w * m ≡ 2 * n + w → 2 * (n % w) ≡ w
tie_by n w m real up =
    let after = lt_of_mul-lt-mul_right (2 * w) {m = n / w} {n = m} (omega arith) in
    let before = lt_of_mul-lt-mul_right (2 * w) {m = m} {n = n / w + 2} (omega arith) in
    let next = ap (λ (k : ℕ). k * (2 * w)) {x = m} {y = n / w + 1} (omega arith) in
    omega arith

-- where n / w lies so, both whole numbers next to it are half a step away
pub tie_half : (n w : ℕ) (up : Bool) → 0 < w → 2 * (n % w) ≡ w → IsHalfStep n w (if up then n / w + 1 else n / w)
tie_half n w true real tie = let is = tie_is n w real tie in record { back = omega arith; forth = omega arith }
tie_half n w false real tie = let is = tie_is n w real tie in record { back = omega arith; forth = omega arith }

-- ---- centres
-- both coordinates of a centre lie so
pub centre_is : (q : RationalPoint) → is_centre q ≡ true → (2 * (q.x % q.w) ≡ q.w) × (2 * (q.y % q.w) ≡ q.w)
centre_is q centre =
    let parts = and_parts _ _ centre in
    (eqb-true _ _ parts.0, eqb-true _ _ parts.1)

-- and one coordinate of any other point doesn't
pub no_centre_is : (q : RationalPoint) → is_centre q ≡ false → (2 * (q.x % q.w) ≢ q.w) ⊎ (2 * (q.y % q.w) ≢ q.w)
no_centre_is q off = elim (and_cases _ _ off) [ inl across ↦ inl (eqb-false _ _ across) | inr up ↦ inr (eqb-false _ _ up) ]
