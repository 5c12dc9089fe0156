-- That a piece is clear of a line exactly where the ways climb that leave it: the steeper ones where it rises against the line, and
-- else the less steep ones, with columns and rows exchanged.
use Rattle.std.proofs.Common.{◌≡◌, ◌⊎◌, ℕ, ◌+◌, ◌-◌, ◌*◌, ◌<◌, ◌≤◌, ap, arith, inl, inr}
use Rattle.grid_base.proofs.Turns.{times_le}
use Rattle.hook_chain.specs.Climbs.{AllSteeperClimb, AllSteeperWithinClimb}
use Rattle.grid_base.proofs.Signs.{natural_order}
use Rattle.hook_chain.proofs.Raised.{IsClear}

-- the piece's two ends, by the line's sums to left and right there, and a margin that neither is farther off than
pub record IsSpan (dx dy q r left_v right_v left_w right_w margin : ℕ) : Type 0 where
  pub ends : left_w + right_v + dy * q ≡ right_w + left_v + dx * r
  pub v_within : (left_v ≤ right_v + margin) × (right_v ≤ left_v + margin)
  pub w_within : (left_w ≤ right_w + margin) × (right_w ≤ left_w + margin)
  pub wide : 0 < q
  pub high : 0 < r

-- ---- ways from the greater end back
-- a number and its rest
rest : (m n : ℕ) → m ≤ n → m + (n - m) ≡ n
rest m n below = omega arith

-- where a way is steeper than the piece, the rest of the piece is less steep
turned : (q r b a : ℕ) → b ≤ q → a ≤ r → r * b < q * a → q * (r - a) < r * (q - b)
turned q r b a across up steep =
    let rest_b = ap (λ (n : ℕ). r * n) (rest b q across) in
    let rest_a = ap (λ (n : ℕ). q * n) (rest a r up) in
    omega arith

-- a way within the piece's columns that is less steep stays below its greater end
stays_below : (q r b a : ℕ) → b ≤ q → q * a < r * b → a ≤ r
stays_below q r b a across flat =
    let not_high : r < a → ⊥ = λ high.
    let gap = times_le r a 0 q (omega arith) (omega arith) in
    let gap_b = times_le 0 r b q (omega arith) across in
    omega arith in
    omega (arith, not_high)

-- the ends of a span, seen from a way within it: the sides at w tell of the rest of the way what those at v tell of the way
ends_apart : (dx dy q r b a : ℕ) → b ≤ q → a ≤ r
    → (dx * a + dx * (r - a) ≡ dx * r) × (dy * b + dy * (q - b) ≡ dy * q)
ends_apart dx dy q r b a across up =
    let rest_a = ap (λ (n : ℕ). dx * n) (rest a r up) in
    let rest_b = ap (λ (n : ℕ). dy * n) (rest b q across) in
    omega arith

-- ---- from ways that climb to a clear piece
-- a piece is clear where all steeper ways climb
pub clear_by_steeper : (dx dy q r left_v right_v left_w right_w margin : ℕ)
    → IsSpan dx dy q r left_v right_v left_w right_w margin → margin < dx → AllSteeperClimb dx dy margin q r
    → IsClear dx dy q r left_v right_v
clear_by_steeper dx dy q r left_v right_v left_w right_w margin span below climb = record {
  near = omega (arith, span.v_within);
  over = λ b a across steep. let way = climb b a steep in omega (arith, span.v_within);
  under = λ b a across flat.
      let up = stays_below q r b a across flat in
      let way = climb (q - b) (r - a) (turned r q a b up across flat) in
      let apart = ends_apart dx dy q r b a across up in
      omega (arith, span.ends, span.w_within);
}

-- or all ways climb that are less steep, with columns and rows exchanged
pub clear_by_flatter : (dx dy q r left_v right_v left_w right_w margin : ℕ)
    → IsSpan dx dy q r left_v right_v left_w right_w margin → margin < dx → AllSteeperClimb dy dx margin r q
    → IsClear dx dy q r left_v right_v
clear_by_flatter dx dy q r left_v right_v left_w right_w margin span below climb = record {
  near = omega (arith, span.v_within);
  over = λ b a across steep. elim (natural_order a r) [
    | inl up ↦
        let way = climb (r - a) (q - b) (turned q r b a across up steep) in
        let apart = ends_apart dx dy q r b a across up in
        omega (arith, span.ends, span.w_within)
    | inr high ↦
        let more_a = times_le 0 dx (r + 1) a (omega arith) (omega arith) in
        let less_b = times_le 0 dy b q (omega arith) across in
        omega (arith, span.ends, span.w_within)
  ];
  under = λ b a across flat. let way = climb a b flat in omega (arith, span.v_within);
}

-- ---- from a clear piece to ways that climb
-- both ends of a clear piece are less than a step from the line
pub record IsNearEnds (dx left_v right_v left_w right_w : ℕ) : Type 0 where
  pub v_near : (left_v < right_v + dx) × (right_v < left_v + dx)
  pub w_near : (left_w < right_w + dx) × (right_w < left_w + dx)

pub near_ends : (dx dy q r left_v right_v left_w right_w margin : ℕ)
    → IsSpan dx dy q r left_v right_v left_w right_w margin → IsClear dx dy q r left_v right_v
    → IsNearEnds dx left_v right_v left_w right_w
near_ends dx dy q r left_v right_v left_w right_w margin span clear =
    let before : (r - 1) + 1 ≡ r = omega (arith, span.high) in
    let before_q = ap (λ (n : ℕ). q * n) before in
    let before_x = ap (λ (n : ℕ). dx * n) before in
    let over_v = clear.over 0 1 (omega arith) (omega (arith, span.wide)) in
    let over_w = clear.over q (r + 1) (omega arith) (omega (arith, span.wide)) in
    let under_w = clear.under q (r - 1) (omega arith) (omega (arith, span.wide)) in
    record { v_near = omega (arith, clear.near); w_near = omega (arith, span.ends) }

-- where one of the ends is as far off as the margin, on the side that steeper ways leave, they climb
pub steeper_by_clear : (dx dy q r left_v right_v left_w right_w margin : ℕ)
    → IsSpan dx dy q r left_v right_v left_w right_w margin → (left_w ≡ right_w + margin) ⊎ (right_v ≡ left_v + margin)
    → IsClear dx dy q r left_v right_v → AllSteeperWithinClimb dx dy margin q r
steeper_by_clear dx dy q r left_v right_v left_w right_w margin span far clear b a across up steep = elim far [
  | inl by_w ↦
      let under = clear.under (q - b) (r - a) (omega arith) (turned q r b a across up steep) in
      let apart = ends_apart dx dy q r b a across up in
      omega (arith, span.ends)
  | inr by_v ↦ let over = clear.over b a across steep in omega arith
]

-- and on the side that less steep ways leave, those climb
pub flatter_by_clear : (dx dy q r left_v right_v left_w right_w margin : ℕ)
    → IsSpan dx dy q r left_v right_v left_w right_w margin → (left_v ≡ right_v + margin) ⊎ (right_w ≡ left_w + margin)
    → IsClear dx dy q r left_v right_v → AllSteeperWithinClimb dy dx margin r q
flatter_by_clear dx dy q r left_v right_v left_w right_w margin span far clear a b up across flat = elim far [
  | inl by_v ↦ let under = clear.under b a across flat in omega arith
  | inr by_w ↦
      let over = clear.over (q - b) (r - a) (omega arith) (turned r q a b up across flat) in
      let apart = ends_apart dx dy q r b a across up in
      omega (arith, span.ends)
]
