-- What Euclid's search along a piece keeps: two neighbouring ways, the lower one and the upper one, that make up the piece.
use Rattle.std.proofs.Common.{◌≡◌, ℕ, ◌+◌, ◌-◌, ◌*◌, ◌/◌, ◌<◌, ◌≤◌, ap, arith}
use Rattle.grid_base.proofs.Turns.{times, times_le}
use Rattle.hook_chain.specs.Climbs.{Climbs, AllSteeperClimb, AllSteeperWithinClimb}
use Rattle.hook_chain.proofs.Farey.{product_of_quotient, quotient_some}
use Rattle.hook_chain.proofs.Climbs.{AllFromClimb, next_climb, all_climb_by}

-- the piece r / q is `over` times the lower way k / l and `under` times the upper way p / h, which are neighbours
pub record IsSplit (q r k l p h under over : ℕ) : Type 0 where
  pub unit : l * p ≡ k * h + 1
  pub across : q ≡ l * over + h * under
  pub up : r ≡ k * over + p * under
  pub under_some : 0 < under
  pub over_some : 0 < over
  pub high_some : 0 < p

-- and all ways from the upper one on climb
pub record IsDescent (dx dy margin q r k l p h under over : ℕ) : Type 0 where
  pub split : IsSplit q r k l p h under over
  pub all : AllFromClimb dx dy margin h p

-- ---- one turn
-- the upper way goes down by as many lower ways as fit
pub high_moved : (q r k l p h under over m : ℕ) → IsSplit q r k l p h under over → m ≡ (over - 1) / under
    → IsSplit q r k l (p + m * k) (h + m * l) under (over - m * under)
high_moved q r k l p h under over m s is =
    let fits = product_of_quotient m (over - 1) under (omega arith) in
    let rest : (over - m * under) + m * under ≡ over = omega (arith, s.over_some) in
    let rest_l = ap (λ (n : ℕ). l * n) rest in
    let rest_k = ap (λ (n : ℕ). k * n) rest in
    record {
      unit = omega (arith, s.unit);
      across = omega (arith, s.across);
      up = omega (arith, s.up);
      under_some = s.under_some;
      over_some = omega (arith, s.over_some);
      high_some = omega (arith, s.high_some);
    }

-- with columns and rows exchanged the lower way is the upper one
mirrored : (q r k l p h under over : ℕ) → IsSplit q r k l p h under over → IsSplit r q h p l k over under
mirrored q r k l p h under over s = record {
  unit = omega (arith, s.unit);
  across = omega (arith, s.up);
  up = omega (arith, s.across);
  under_some = s.over_some;
  over_some = s.under_some;
  high_some =
      let not_none : l ≡ 0 → ⊥ = λ none. let product = ap (λ (n : ℕ). n * p) none in omega (arith, s.unit) in
      omega (arith, not_none);
}

-- so the lower way goes up by as many upper ways as fit
low_moved : (q r k l p h under over m : ℕ) → IsSplit q r k l p h under over → m ≡ (under - 1) / over
    → IsSplit q r (k + m * p) (l + m * h) p h (under - m * over) over
low_moved q r k l p h under over m s is =
    mirrored _ _ _ _ _ _ _ _ (high_moved r q h p l k over under m (mirrored q r k l p h under over s) is)

-- the search goes on where the new upper way climbs
pub high_descends : (dx dy margin q r k l p h under over m : ℕ) → IsDescent dx dy margin q r k l p h under over
    → m ≡ (over - 1) / under → under < over → Climbs dx dy margin (h + m * l) (p + m * k)
    → IsDescent dx dy margin q r k l (p + m * k) (h + m * l) under (over - m * under)
high_descends dx dy margin q r k l p h under over m d is less climbs =
    let some = quotient_some under (over - 1) d.split.under_some (omega arith) in
    record {
      split = high_moved q r k l p h under over m d.split is;
      all = next_climb dx dy margin k l p h m (omega arith) d.split.high_some d.split.unit d.all climbs;
    }

-- and where the lower way has moved
pub low_ascends : (dx dy margin q r k l p h under over m : ℕ) → IsDescent dx dy margin q r k l p h under over
    → m ≡ (under - 1) / over
    → IsDescent dx dy margin q r (k + m * p) (l + m * h) p h (under - m * over) over
low_ascends dx dy margin q r k l p h under over m d is =
    record { split = low_moved q r k l p h under over m d.split is; all = d.all }

-- ---- within the piece
-- a sum of a * m and b * n is at least a and at least b, where m and n are above 0
parts_within : (a b m n : ℕ) → 0 < m → 0 < n → (a ≤ a * m + b * n) × (b ≤ a * m + b * n)
parts_within a b m n some_m some_n =
    let first = times_le 0 a 1 m (omega arith) some_m in
    let second = times_le 0 b 1 n (omega arith) some_n in
    omega arith

-- the two ways stay within the piece
within_piece : (q r k l p h under over : ℕ) → IsSplit q r k l p h under over → (l ≤ q) × (h ≤ q) × (k ≤ r) × (p ≤ r)
within_piece q r k l p h under over s =
    let across = parts_within l h over under s.over_some s.under_some in
    let up = parts_within k p over under s.over_some s.under_some in
    omega (arith, s.across, s.up)

-- so does the new upper way
pub high_within : (q r k l p h under over m : ℕ) → IsSplit q r k l p h under over → m ≡ (over - 1) / under
    → (p + m * k ≤ r) × (h + m * l ≤ q)
high_within q r k l p h under over m s is =
    let within = within_piece _ _ _ _ _ _ _ _ (high_moved q r k l p h under over m s is) in (within.3, within.1)

-- and the new lower way
pub low_within : (q r k l p h under over m : ℕ) → IsSplit q r k l p h under over → m ≡ (under - 1) / over
    → (k + m * p ≤ r) × (l + m * h ≤ q)
low_within q r k l p h under over m s is =
    let within = within_piece _ _ _ _ _ _ _ _ (low_moved q r k l p h under over m s is) in (within.2, within.0)

-- the upper way is steeper than the piece
high_is_steeper : (q r k l p h under over : ℕ) → IsSplit q r k l p h under over → r * h < q * p
high_is_steeper q r k l p h under over s =
    let up_h = ap (λ (n : ℕ). h * n) s.up in
    let across_p = ap (λ (n : ℕ). p * n) s.across in
    let unit_over = ap (λ (n : ℕ). over * n) s.unit in
    omega (arith, s.over_some)

-- so where all steeper ways within the piece climb, the upper one does
pub high_climbs : (dx dy margin q r k l p h under over : ℕ) → IsSplit q r k l p h under over
    → AllSteeperWithinClimb dx dy margin q r → Climbs dx dy margin h p
high_climbs dx dy margin q r k l p h under over s all =
    let within = within_piece q r k l p h under over s in
    all h p within.1 within.3 (high_is_steeper q r k l p h under over s)

-- ---- the end
-- where both parts are of one size, the sum of the two ways is the direction of the piece, and all steeper ways climb
pub descent_ends : (dx dy margin q r k l p h under over : ℕ) → IsDescent dx dy margin q r k l p h under over → under ≡ over
    → dy * q ≤ dx * r → AllSteeperClimb dx dy margin q r
descent_ends dx dy margin q r k l p h under over d same forth b a steep =
    let some_a : a ≡ 0 → ⊥ = λ none. let none_q = ap (λ (n : ℕ). q * n) none in omega arith in
    let same_l = ap (λ (n : ℕ). l * n) same in
    let same_k = ap (λ (n : ℕ). k * n) same in
    let across : q ≡ (l + h) * under = omega (arith, d.split.across) in
    let up : r ≡ (k + p) * under = omega (arith, d.split.up) in
    let across_y = ap (λ (n : ℕ). dy * n) across in
    let across_a = ap (λ (n : ℕ). a * n) across in
    let up_x = ap (λ (n : ℕ). dx * n) up in
    let up_b = ap (λ (n : ℕ). b * n) up in
    let not_back : dx * (k + p) < dy * (l + h) → ⊥ =
    λ back. let gap = times (dx * (k + p)) (dy * (l + h)) 0 under back d.split.under_some in omega arith in
    let not_flat : a * (l + h) ≤ (k + p) * b → ⊥ =
    λ flat. let gap = times_le (a * (l + h)) ((k + p) * b) 0 under flat (omega arith) in omega arith in
    all_climb_by dx dy margin k l p h d.split.high_some d.split.unit d.all (omega (arith, not_back)) b a
    (omega (arith, some_a)) (omega (arith, not_flat))
