-- Neighbours among fractions.
use Rattle.std.proofs.Common.{◌≡◌, ◌⊎◌, ℕ, ◌+◌, ◌-◌, ◌*◌, ◌/◌, min, ◌<◌, ◌≤◌, ap, arith}
use Rattle.grid_base.proofs.Turns.{times, times_le}
use Rattle.grid_base.proofs.Signs.{natural_order}
use Rattle.hook_chain.specs.Fractions.{IsLeastAbove}

-- k / l is below c / d and p / q is not, by what is kept of the distances, and no fraction between them has a small denominator
pub record AreNeighbours (c d k l p q under over : ℕ) : Type 0 where
  pub unit : l * p ≡ k * q + 1
  pub low : c * l ≡ k * d + under
  pub high : p * d ≡ c * q + over
  pub apart : 0 < under

-- what is not below c / d is strictly above k / l
above_low : (c d k l a b under : ℕ) → c * l ≡ k * d + under → 0 < under → 0 < b → c * b ≤ a * d → k * b < l * a
above_low c d k l a b under low u h e =
    let no : l * a ≤ k * b → ⊥ = λ n.
    let p1 = times_le (l * a) (k * b) 0 d n (omega arith) in
    let p2 = times_le (c * b) (a * d) 0 l e (omega arith) in
    let p3 = times (k * d) (c * l) 0 b (omega arith) h in
    omega arith
    in omega (arith, no)

-- a fraction between two neighbours has a denominator of at least the sum of theirs
pub between_neighbours : (c d k l p q under over a b : ℕ) → AreNeighbours c d k l p q under over → 0 < b → c * b ≤ a * d → a * q < p * b
    → l + q ≤ b
between_neighbours c d k l p q under over a b n h e better =
    let y = above_low c d k l a b under n.low n.apart h e in
    let u = ap (λ (t : ℕ). b * t) n.unit in
    let p1 = times_le 0 l (a * q + 1) (p * b) (omega arith) (omega arith) in
    let p2 = times_le 0 q (k * b + 1) (l * a) (omega arith) (omega arith) in
    omega arith

-- one that equals the upper neighbour has no smaller denominator
pub like_upper : (c d k l p q under over a b : ℕ) → AreNeighbours c d k l p q under over → 0 < b → c * b ≤ a * d → a * q ≡ p * b → q ≤ b
like_upper c d k l p q under over a b n h e same =
    let y = above_low c d k l a b under n.low n.apart h e in
    let u = ap (λ (t : ℕ). b * t) n.unit in
    let s = ap (λ (t : ℕ). l * t) same in
    let p2 = times_le 0 q (k * b + 1) (l * a) (omega arith) (omega arith) in
    omega arith

-- what the search keeps
pub record IsSearch (c d n k l p q under over : ℕ) : Type 0 where
  pub neighbours : AreNeighbours c d k l p q under over
  pub low_some : 0 < l
  pub high_some : 0 < q
  pub high_within : q ≤ n
  pub low_within : l ≤ n
  pub low_proper : k ≤ l
  pub high_proper : p ≤ q
  pub distances : (under ≤ c) × (over ≤ d)

-- what a quotient's multiple comes to
pub product_of_quotient : (m a b : ℕ) → m ≤ a / b → m * b ≤ a
product_of_quotient m a b h = let p = times_le m (a / b) 0 b h (omega arith) in omega arith

-- a quotient of at least the divisor isn't 0
pub quotient_some : (m n : ℕ) → 0 < m → m ≤ n → 0 < n / m
quotient_some m n some below =
    let none : n / m ≡ 0 → ⊥ = λ same. let product = ap (λ (k : ℕ). m * k) same in omega arith in
    omega (arith, none)

-- so as many whole steps as fit come to some
pub taken_some : (a b : ℕ) → 0 < b → b ≤ a → 0 < a / b * b
taken_some a b some fits = let product = times 0 (a / b) 0 b (quotient_some b a some fits) some in omega arith

-- steps that fit in both are some
pub steps_some : (a b e f m : ℕ) → 0 < b → b ≤ a → 0 < f → f ≤ e → m ≡ min (a / b) (e / f) → 0 < m * f
steps_some a b e f m some_b first some_f second is =
    let one = quotient_some b a some_b first in
    let other = quotient_some f e some_f second in
    let product = times 0 m 0 f (omega arith) some_f in
    omega arith

-- the upper one goes down by m times the lower one
pub high_step : (c d n k l p q under over m : ℕ) → IsSearch c d n k l p q under over → m ≡ min (over / under) ((n - q) / l)
    → IsSearch c d n k l (p + m * k) (q + m * l) under (over - m * under)
high_step c d n k l p q under over m s e =
    let f = product_of_quotient m over under (omega arith) in
    let g = product_of_quotient m (n - q) l (omega arith) in
    let t = times_le k l 0 m s.low_proper (omega arith) in
    let r : (over - m * under) + m * under ≡ over = omega arith in
    record {
      neighbours = record {
        unit = omega (arith, s.neighbours.unit);
        low = s.neighbours.low;
        high = omega
            (arith, s.neighbours.low, s.neighbours.high, ap (λ (x : ℕ). m * x) s.neighbours.low);
        apart = s.neighbours.apart;
      };
      low_some = s.low_some;
      high_some = omega (arith, s.high_some);
      high_within = omega (arith, s.high_within);
      low_within = s.low_within;
      low_proper = s.low_proper;
      high_proper = omega (arith, s.high_proper);
      distances = (s.distances.0, omega (arith, s.distances.1));
    }

-- the lower one goes up by m times the upper one
pub low_step : (c d n k l p q under over m : ℕ) → IsSearch c d n k l p q under over → m ≡ min ((under - 1) / over) ((n - l) / q)
    → IsSearch c d n (k + m * p) (l + m * q) p q (under - m * over) over
low_step c d n k l p q under over m s e =
    let f = product_of_quotient m (under - 1) over (omega arith) in
    let g = product_of_quotient m (n - l) q (omega arith) in
    let t = times_le p q 0 m s.high_proper (omega arith) in
    let a = s.neighbours.apart in
    let r : (under - m * over) + m * over ≡ under = omega arith in
    record {
      neighbours = record {
        unit = omega (arith, s.neighbours.unit);
        low = omega
            (arith, s.neighbours.low, ap (λ (x : ℕ). m * x) s.neighbours.high);
        high = s.neighbours.high;
        apart = omega arith;
      };
      low_some = omega (arith, s.low_some);
      high_some = s.high_some;
      high_within = s.high_within;
      low_within = omega (arith, s.low_within);
      low_proper = omega (arith, s.low_proper);
      high_proper = s.high_proper;
      distances = (omega (arith, s.distances.0), s.distances.1);
    }

-- the search ends where no fraction between the two has a denominator of at most n
pub found : (c d n k l p q under over : ℕ) → IsSearch c d n k l p q under over → n < l + q → IsLeastAbove c d n p q
found c d n k l p q under over s h = record {
  some = s.high_some;
  within = s.high_within;
  above = omega (arith, s.neighbours.high);
  least = λ a b f g e. let no : a * q < p * b → ⊥ = λ t. let x = between_neighbours c d k l p q under over a b s.neighbours f e t in omega
      arith in omega (arith, no);
  lowest = λ a b f g e.
      let no : a * q < p * b → ⊥ = λ t. let x = between_neighbours c d k l p q under over a b s.neighbours f e t in omega
      (arith, s.high_within) in
      let not : a * q ≡ p * b → ⊥ = λ t. let x = like_upper c d k l p q under over a b s.neighbours f e t in omega arith in
      omega (arith, no, not);
}

-- and where the upper one is c / d itself
pub found_exact : (c d n k l p q under over : ℕ) → 0 < d → IsSearch c d n k l p q under over → over ≡ 0 → IsLeastAbove c d n p q
found_exact c d n k l p q under over pd s h =
    let same : p * d ≡ c * q = omega (arith, s.neighbours.high) in
    let least : (a b : ℕ) → c * b ≤ a * d → p * b ≤ a * q = λ a b e.
    let no : a * q < p * b → ⊥ = λ t.
    let p1 = times (a * q) (p * b) 0 d t pd in
    let p2 = times_le (c * b) (a * d) 0 q e (omega arith) in
    let p3 = ap (λ (x : ℕ). b * x) same in
    omega arith
    in omega (arith, no) in
    record {
      some = s.high_some;
      within = s.high_within;
      above = omega arith;
      least = λ a b f g e. least a b e;
      lowest = λ a b f g e.
          let not : a * q ≡ p * b → ⊥ = λ t. let x = like_upper c d k l p q under over a b s.neighbours f e t in omega arith in
          let le = least a b e in
          omega (arith, not);
    }
