-- There is a least fraction that isn't below another, among those with a small denominator.
use Rattle.std.proofs.Common.{◌≡◌, ◌⊎◌, ℕ, zero, suc, ◌+◌, ◌-◌, ◌*◌, ◌/◌, ◌<◌, ◌≤◌, ap, subst, arith, inl, inr}
use Rattle.std.proofs.Math.Nat.{lt_of_mul-lt-mul_right}
use Rattle.grid_base.proofs.Turns.{times, times_le}
use Rattle.hook_chain.specs.Fractions.{IsLeastAbove}
use Rattle.grid_base.proofs.Signs.{natural_order}

-- the least multiple of d that isn't below m, by its factor
record IsCeiling (m d a : ℕ) : Type 0 where
  above : m ≤ a * d
  least : (b : ℕ) → m ≤ b * d → a ≤ b

ceiling : (m d : ℕ) → 0 < d → IsCeiling m d ((m + (d - 1)) / d)
ceiling m d some = record {
  above = omega arith;
  least = λ b above.
      let not_more : b < (m + (d - 1)) / d → ⊥ = λ more. let product = times_le 0 d (b + 1) ((m + (d - 1)) / d) (omega arith)
      (omega arith) in omega arith in
      omega (arith, not_more);
}

-- a least fraction, by its two numbers
pub record HasLeast (c d n : ℕ) : Type 0 where
  pub p : ℕ
  pub q : ℕ
  pub is : IsLeastAbove c d n p q

-- a whole number, where the denominator is 1
with_one : (c d : ℕ) → 0 < d → HasLeast c d 1
with_one c d some =
    let a = (c + (d - 1)) / d in
    let top = ceiling c d some in
    record {
      p = a;
      q = 1;
      is = record {
        some = omega arith;
        within = omega arith;
        above = omega (arith, top.above);
        least = λ b e some_e at_most above. let one : e ≡ 1 = omega arith in
            let c_one = ap (λ (k : ℕ). c * k) one in
            let a_one = ap (λ (k : ℕ). a * k) one in
            let at_least = top.least b (omega arith) in omega arith;
        lowest = λ b e some_e less above. absurd (omega arith);
      };
    }

-- the fraction of the next denominator is less than the least of the others, or not
with_next : (c d n a p q : ℕ) → IsCeiling (c * (n + 1)) d a → IsLeastAbove c d n p q → (p * (n + 1) ≤ a * q) ⊎ (a * q < p * (n + 1))
    → HasLeast c d (n + 1)
with_next c d n a p q top old (inr less) = record {
  p = a;
  q = n + 1;
  is = record {
    some = omega arith;
    within = omega arith;
    above = omega (arith, top.above);
    least = λ b e some_e at_most above. elim (natural_order e n) [
      | inl before ↦ (let strict = smaller b e some_e before above in omega arith)
      | inr after ↦
          let last : e ≡ n + 1 = omega arith in
          let c_last = ap (λ (k : ℕ). c * k) last in
          let a_last = ap (λ (k : ℕ). a * k) last in
          let at_least = top.least b (omega arith) in
          let product = times_le a b 0 (n + 1) at_least (omega arith) in
          omega arith
    ];
    lowest = λ b e some_e before above. smaller b e some_e (omega arith) above;
  };
}
  where
    smaller : (b e : ℕ) → 0 < e → e ≤ n → c * e ≤ b * d → a * e < b * (n + 1)
    smaller b e some_e before above =
        let at_least = old.least b e some_e before above in
        let first = times 0 e (a * q) (p * (n + 1)) some_e less in
        let second = times_le (p * e) (b * q) 0 (n + 1) at_least (omega arith) in
        lt_of_mul-lt-mul_right q {m = a * e} {n = b * (n + 1)} (omega arith)
with_next c d n a p q top old (inl not_less) = record {
  p = p;
  q = q;
  is = record {
    some = old.some;
    within = omega (arith, old.within);
    above = old.above;
    least = λ b e some_e at_most above. elim (natural_order e n) [
      | inl before ↦ old.least b e some_e before above
      | inr after ↦
          let last : e ≡ n + 1 = omega arith in
          let c_last = ap (λ (k : ℕ). c * k) last in
          let p_last = ap (λ (k : ℕ). p * k) last in
          let at_least = top.least b (omega arith) in
          let product = times_le a b 0 q at_least (omega arith) in
          omega arith
    ];
    lowest = old.lowest;
  };
}

-- for each greatest denominator there is one
pub has_least : (c d n : ℕ) → 0 < d → HasLeast c d (suc n)
has_least c d zero some = with_one c d some
has_least c d (suc n) some =
    let old = has_least c d n some in
    let a = (c * (suc n + 1) + (d - 1)) / d in
    let next : suc n + 1 ≡ suc (suc n) = omega arith in
    subst (λ (k : ℕ). HasLeast c d k) next (with_next c d (suc n) a old.p old.q (ceiling (c * (suc n + 1)) d some) old.is
    (natural_order (old.p * (suc n + 1)) (a * old.q)))
