-- That each way steeper than a piece climbs, where a few do. Seen from below, the steeper ways are the lattice points above
-- the piece's slope; the tested ones are the corners of their hull.
use Rattle.std.proofs.Common.{◌≡◌, ℕ, ◌+◌, ◌-◌, ◌*◌, ◌<◌, ◌≤◌, ap, arith, inl, inr}
use Rattle.grid_base.proofs.Turns.{times, times_le}
use Rattle.hook_chain.specs.Climbs.{Climbs}
use Rattle.grid_base.proofs.Signs.{natural_order}

-- each way climbs that is at least as steep as p / q
abbrev pub AllFromClimb : ℕ → ℕ → ℕ → ℕ → ℕ → Type 0
AllFromClimb dx dy margin q p = (b a : ℕ) → 0 < a → p * b ≤ a * q → Climbs dx dy margin b a

-- ---- a way between two neighbours
-- the way of b across and a up is x times that of q and p, and y times that of l and k
record IsSum (k l p q b a : ℕ) : Type 0 where
  x : ℕ
  y : ℕ
  across : b ≡ x * q + y * l
  up : a ≡ x * p + y * k
  lower : k * b + x ≡ l * a
  upper : a * q + y ≡ p * b

-- a way from k / l to p / q is such a sum
sum_of : (k l p q b a : ℕ) → l * p ≡ k * q + 1 → k * b ≤ l * a → a * q ≤ p * b → IsSum k l p q b a
sum_of k l p q b a unit low high =
    let x = l * a - k * b in
    let y = p * b - a * q in
    let lower : k * b + x ≡ l * a = omega arith in
    let upper : a * q + y ≡ p * b = omega arith in
    let unit_b = ap (λ (n : ℕ). b * n) unit in
    let unit_a = ap (λ (n : ℕ). a * n) unit in
    let lower_q = ap (λ (n : ℕ). q * n) lower in
    let upper_l = ap (λ (n : ℕ). l * n) upper in
    let lower_p = ap (λ (n : ℕ). p * n) lower in
    let upper_k = ap (λ (n : ℕ). k * n) upper in
    record { x = x; y = y; across = omega arith; up = omega arith; lower = lower; upper = upper }

-- ---- the next tested way
-- where p / q climbs and so does the way m times k / l further, a sum of p / q and k / l climbs that has y at most m times x
sum_climbs : (dx dy margin k l p q b a m x y z : ℕ) → 0 < m → 0 < x → b ≡ x * q + y * l → a ≡ x * p + y * k → m * x ≡ y + z
    → Climbs dx dy margin q p → Climbs dx dy margin (q + m * l) (p + m * k) → Climbs dx dy margin b a
sum_climbs dx dy margin k l p q b a m x y z some_m some_x across up split first next =
    let not_less : dx * a ≤ margin + dy * b → ⊥ = λ less.
    let all = times_le (dx * a) (margin + dy * b) 0 m less (omega arith) in
    let by_first = times_le 0 z (margin + dy * q + 1) (dx * p) (omega arith) (omega arith) in
    let by_next = times_le 0 y (margin + dy * (q + m * l) + 1) (dx * (p + m * k)) (omega arith) (omega arith) in
    let across_m = ap (λ (n : ℕ). m * dy * n) across in
    let up_m = ap (λ (n : ℕ). m * dx * n) up in
    let split_q = ap (λ (n : ℕ). dy * q * n) split in
    let split_p = ap (λ (n : ℕ). dx * p * n) split in
    let split_margin = ap (λ (n : ℕ). margin * n) split in
    let margins = times_le 0 (m * margin) 1 x (omega arith) some_x in
    let some = times 0 m 0 x some_m some_x in
    omega arith in
    omega (arith, not_less)

-- the upper neighbour goes down by m times the lower one: where it climbs, all steeper ways do
pub next_climb : (dx dy margin k l p q m : ℕ) → 0 < m → 0 < p → l * p ≡ k * q + 1 → AllFromClimb dx dy margin q p
    → Climbs dx dy margin (q + m * l) (p + m * k) → AllFromClimb dx dy margin (q + m * l) (p + m * k)
next_climb dx dy margin k l p q m some_m some_p unit all next b a some steep = elim (natural_order (p * b) (a * q)) [
  | inl before ↦ all b a some before
  | inr between ↦
      let not_low : l * a < k * b → ⊥ = λ low. let gap = times_le (l * a + 1) (k * b) 0 m (omega arith) (omega arith) in omega arith in
      let sum = sum_of k l p q b a unit (omega (arith, not_low)) (omega arith) in
      let lower_m = ap (λ (n : ℕ). m * n) sum.lower in
      let within : sum.y ≤ m * sum.x = omega (arith, sum.upper) in
      let some_x : sum.x ≡ 0 → ⊥ = λ none. let none_m = ap (λ (n : ℕ). m * n) none in omega (arith, sum.upper) in
      sum_climbs dx dy margin k l p q b a m sum.x sum.y (m * sum.x - sum.y) some_m (omega (arith, some_x))
      sum.across sum.up (omega arith) (all q p some_p (omega arith)) next
]

-- ---- the end
-- where p / q climbs, and its sum with k / l doesn't fall against the line, a sum of both climbs that has less of k / l
rest_climbs : (dx dy margin k l p q b a x y z : ℕ) → 0 < z → b ≡ x * q + y * l → a ≡ x * p + y * k → y + z ≡ x
    → Climbs dx dy margin q p → dy * (l + q) ≤ dx * (k + p) → Climbs dx dy margin b a
rest_climbs dx dy margin k l p q b a x y z some across up split first forth =
    let by_piece = times_le 0 y (dy * (l + q)) (dx * (k + p)) (omega arith) forth in
    let by_first = times_le 0 z (margin + dy * q + 1) (dx * p) (omega arith) (omega arith) in
    let margins = times_le 0 margin 1 z (omega arith) some in
    let across_y = ap (λ (n : ℕ). dy * n) across in
    let up_x = ap (λ (n : ℕ). dx * n) up in
    let split_q = ap (λ (n : ℕ). dy * q * n) split in
    let split_p = ap (λ (n : ℕ). dx * p * n) split in
    omega arith

-- where the sum of the neighbours is the piece's direction, and the piece doesn't fall against the line, all steeper ways climb
pub all_climb_by : (dx dy margin k l p q : ℕ) → 0 < p → l * p ≡ k * q + 1 → AllFromClimb dx dy margin q p → dy * (l + q) ≤ dx * (k + p)
    → (b a : ℕ) → 0 < a → (k + p) * b < a * (l + q) → Climbs dx dy margin b a
all_climb_by dx dy margin k l p q some_p unit all forth b a some steep = elim (natural_order (p * b) (a * q)) [
  | inl before ↦ all b a some before
  | inr between ↦
      let sum = sum_of k l p q b a unit (omega arith) (omega arith) in
      let less : sum.y < sum.x = omega (arith, sum.lower, sum.upper) in
      rest_climbs dx dy margin k l p q b a sum.x sum.y (sum.x - sum.y) (omega arith) sum.across sum.up (omega arith)
      (all q p some_p (omega arith)) forth
]
