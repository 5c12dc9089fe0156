-- That closeness by sides is a matter of ways from the lesser end of a piece, counted where each column is raised by `slant` rows
-- above the one before. So counted, both segments rise, and the sides of points stay.
use Rattle.std.proofs.Common.{◌≡◌, ◌⊎◌, ℕ, ◌+◌, ◌-◌, ◌*◌, ◌<◌, ◌≤◌, refl, ap, arith, inl, inr}
use Rattle.grid_base.specs.Point.{GridPoint, point_at}
use Rattle.grid_base.specs.Segment.{GridSegment}
use Rattle.grid_base.proofs.Turns.{times, times_le, leftward, rightward}
use Rattle.hook_chain.specs.Climbs.{IsRaised}
use Rattle.grid_base.proofs.Signs.{natural_order}
use Rattle.hook_chain.proofs.Closes.{IsBare}

-- the sum to the left at column x, in the row of n less m
abbrev left_at : GridSegment → ℕ → ℕ → ℕ → ℕ
left_at s x n m = s.a.x * s.b.y + s.b.x * n + x * s.a.y + m * s.a.x

-- the sum to the right there
abbrev right_at : GridSegment → ℕ → ℕ → ℕ → ℕ
right_at s x n m = s.a.y * s.b.x + s.b.y * x + n * s.a.x + m * s.b.x

-- where m isn't more than n, this is the point (x, n - m)
at_row : (s : GridSegment) (x n m y : ℕ) → y + m ≡ n
    → leftward s.a s.b (point_at x y) + right_at s x n m ≡ rightward s.a s.b (point_at x y) + left_at s x n m
at_row s x n m y row =
    let at_a = ap (λ (k : ℕ). s.a.x * k) row in
    let at_b = ap (λ (k : ℕ). s.b.x * k) row in
    omega arith

-- a place of a column of s that isn't under s isn't under the grid
row_exists : (s : GridSegment) (x n m : ℕ) → s.a.x < s.b.x → s.a.x ≤ x → x ≤ s.b.x → right_at s x n m ≤ left_at s x n m → m ≤ n
row_exists s x n m wide from to not_under =
    let below_b = times_le 0 s.a.y x s.b.x (omega arith) to in
    let below_a = times_le 0 s.b.y s.a.x x (omega arith) from in
    let not_less : n < m → ⊥ = λ less. let gap = times s.a.x s.b.x n m wide less in omega arith in
    omega (arith, not_less)

-- what a way of b across, a up and `down` down from v does to the side at s
against : (slant : ℕ) (s : GridSegment) (dx dy : ℕ) → IsRaised slant s dx dy → (v : GridPoint) (b a down : ℕ)
    → left_at s (v.x + b) (v.y + a) (slant * b + down) + rightward s.a s.b v + dy * b + dx * down
    ≡ right_at s (v.x + b) (v.y + a) (slant * b + down) + leftward s.a s.b v + dx * a
against slant s dx dy raised v b a down =
    let across_row = ap (λ (n : ℕ). n * (v.y + a)) raised.across in
    let across_v = ap (λ (n : ℕ). n * v.y) raised.across in
    let across_down = ap (λ (n : ℕ). n * (slant * b + down)) raised.across in
    let up_b = ap (λ (n : ℕ). n * b) raised.up in
    omega arith

-- ---- clear
-- where dx and dy are the line's and q and r the piece's: no place over the piece is at the line or under it, and none under the
-- piece is at the line or over it. The piece begins where the line's sides sum to left and right.
pub record IsClear (dx dy q r left right : ℕ) : Type 0 where
  pub near : left < right + dx
  pub over : (b a : ℕ) → b ≤ q → r * b < q * a → right + dy * b < left + dx * a
  pub under : (b a : ℕ) → b ≤ q → q * a < r * b → left + dx * a < right + dy * b

-- o and p, raised, where p isn't vertical and lies in the columns of o
pub record IsRaisedPair (slant : ℕ) (o p : GridSegment) (dx dy q r : ℕ) : Type 0 where
  pub line : IsRaised slant o dx dy
  pub piece : IsRaised slant p q r
  pub wide : 0 < q
  pub first : o.a.x ≤ p.a.x
  pub last : p.b.x ≤ o.b.x

-- how the sides of g at s are told by the way of b across, a up and `down` down that leads to it from v
pub sides_at : (slant : ℕ) (s : GridSegment) (dx dy : ℕ) → IsRaised slant s dx dy → (v g : GridPoint) (b a down : ℕ)
    → v.x + b ≡ g.x → g.y + (slant * b + down) ≡ v.y + a
    → leftward s.a s.b g + rightward s.a s.b v + dy * b + dx * down ≡ rightward s.a s.b g + leftward s.a s.b v + dx * a
sides_at slant s dx dy raised v g b a down column row =
    let way = against slant s dx dy raised v b a down in
    let here = at_row s g.x (v.y + a) (slant * b + down) g.y row in
    let moved = rw column at way in
    omega arith

-- at its own lesser end a segment has equal sides
own_sides : (s : GridSegment) → leftward s.a s.b s.a ≡ rightward s.a s.b s.a
own_sides s = omega arith

-- ---- from clear to bare
-- a point under a clear piece, not below the row of its beginning, is under the line
under_line : (slant : ℕ) (o p : GridSegment) (dx dy q r : ℕ) → IsRaisedPair slant o p dx dy q r
    → IsClear dx dy q r (leftward o.a o.b p.a) (rightward o.a o.b p.a) → (g : GridPoint) (b a : ℕ)
    → p.a.x + b ≡ g.x → b ≤ q → g.y + (slant * b + 0) ≡ p.a.y + a
    → leftward p.a p.b g < rightward p.a p.b g → leftward o.a o.b g < rightward o.a o.b g
under_line slant o p dx dy q r pair clear g b a column within row under =
    let line = sides_at slant o dx dy pair.line p.a g b a 0 column row in
    let piece = sides_at slant p q r pair.piece p.a g b a 0 column row in
    let own = own_sides p in
    let clears = clear.under b a within (omega arith) in
    omega arith

-- a point below the row of the piece's beginning is under the line
far_under_line : (slant : ℕ) (o p : GridSegment) (dx dy q r : ℕ) → IsRaisedPair slant o p dx dy q r
    → leftward o.a o.b p.a < rightward o.a o.b p.a + dx → (g : GridPoint) (b down : ℕ)
    → p.a.x + b ≡ g.x → g.y + (slant * b + down) ≡ p.a.y + 0 → 0 < down → leftward o.a o.b g < rightward o.a o.b g
far_under_line slant o p dx dy q r pair near g b down column row some =
    let line = sides_at slant o dx dy pair.line p.a g b 0 down column row in
    let step = times_le 0 dx 1 down (omega arith) some in
    omega arith

-- a point over a clear piece is over the line
over_line : (slant : ℕ) (o p : GridSegment) (dx dy q r : ℕ) → IsRaisedPair slant o p dx dy q r
    → IsClear dx dy q r (leftward o.a o.b p.a) (rightward o.a o.b p.a) → (g : GridPoint) (b a down : ℕ)
    → p.a.x + b ≡ g.x → b ≤ q → g.y + (slant * b + down) ≡ p.a.y + a → (a ≡ 0) ⊎ (down ≡ 0)
    → rightward p.a p.b g < leftward p.a p.b g → rightward o.a o.b g < leftward o.a o.b g
over_line slant o p dx dy q r pair clear g b a down column within row one over =
    let line = sides_at slant o dx dy pair.line p.a g b a down column row in
    let piece = sides_at slant p q r pair.piece p.a g b a down column row in
    let own = own_sides p in
    elim one [
      | inl level ↦ let none = ap (λ (n : ℕ). q * n) level in absurd (omega arith)
      | inr direct ↦
          let none = ap (λ (n : ℕ). dx * n) direct in
          let none_q = ap (λ (n : ℕ). q * n) direct in
          let clears = clear.over b a within (omega arith) in
          omega arith
    ]

-- where the piece is clear, no grid point lies from o to p by its sides
pub bare_by_clear : (slant : ℕ) (o p : GridSegment) (dx dy q r : ℕ) → IsRaisedPair slant o p dx dy q r
    → IsClear dx dy q r (leftward o.a o.b p.a) (rightward o.a o.b p.a) → IsBare o p
bare_by_clear slant o p dx dy q r pair clear g from to =
    let b = g.x - p.a.x in
    let column : p.a.x + b ≡ g.x = omega arith in
    let within : b ≤ q = omega (arith, pair.piece.across) in
    elim (natural_order p.a.y (g.y + slant * b)) [
      | inl up ↦
          let a = g.y + slant * b - p.a.y in
          let row : g.y + (slant * b + 0) ≡ p.a.y + a = omega arith in
          record {
            over_o = λ over under.
                let below = under_line slant o p dx dy q r pair clear g b a column within row under in omega arith;
            under_o = λ under over.
                let above = over_line slant o p dx dy q r pair clear g b a 0 column within row (inr refl) over in omega arith;
          }
      | inr down ↦
          let fall = p.a.y - (g.y + slant * b) in
          let row : g.y + (slant * b + fall) ≡ p.a.y + 0 = omega arith in
          record {
            over_o = λ over under.
                let below = far_under_line slant o p dx dy q r pair clear.near g b fall column row (omega arith) in omega arith;
            under_o = λ under over.
                let above = over_line slant o p dx dy q r pair clear g b 0 fall column within row (inl refl) over in omega arith;
          }
    ]

-- ---- from bare to clear
-- the line is as wide as the piece or wider
line_wide : (slant : ℕ) (o p : GridSegment) (dx dy q r : ℕ) → IsRaisedPair slant o p dx dy q r → 0 < dx
line_wide slant o p dx dy q r pair = omega (arith, pair.wide, pair.first, pair.last, pair.line.across, pair.piece.across)

-- the grid point that a way leads to which ends on no side right of s
point_of_way : (slant : ℕ) (s : GridSegment) (dx dy : ℕ) → IsRaised slant s dx dy → 0 < dx → (v : GridPoint) (b a down : ℕ)
    → s.a.x ≤ v.x + b → v.x + b ≤ s.b.x → rightward s.a s.b v + dy * b + dx * down ≤ leftward s.a s.b v + dx * a
    → slant * b + down ≤ v.y + a
point_of_way slant s dx dy raised wide v b a down from to not_right =
    let way = against slant s dx dy raised v b a down in
    row_exists s (v.x + b) (v.y + a) (slant * b + down) (omega (arith, raised.across)) from to (omega arith)

-- where no grid point lies from o to p, the piece begins less than a step above the line
near_by_bare : (slant : ℕ) (o p : GridSegment) (dx dy q r : ℕ) → IsRaisedPair slant o p dx dy q r → IsBare o p
    → leftward o.a o.b p.a < rightward o.a o.b p.a + dx
near_by_bare slant o p dx dy q r pair bare =
    let wide = line_wide slant o p dx dy q r pair in
    let not_far : rightward o.a o.b p.a + dx ≤ leftward o.a o.b p.a → ⊥ =
    λ far.
    let some = point_of_way slant o dx dy pair.line wide p.a 0 0 1 (omega (arith, pair.first))
    (omega (arith, pair.last, pair.piece.across)) (omega arith) in
    let g = point_at p.a.x (p.a.y - 1) in
    let row : g.y + (slant * 0 + 1) ≡ p.a.y + 0 = omega arith in
    let line = sides_at slant o dx dy pair.line p.a g 0 0 1 (omega arith) row in
    let piece = sides_at slant p q r pair.piece p.a g 0 0 1 (omega arith) row in
    let own = own_sides p in
    (bare g (omega arith) (omega (arith, pair.piece.across))).over_o (omega arith) (omega (arith, pair.wide))
    in omega (arith, not_far)

-- nor does a way that is steeper than the piece end at the line or under it
over_by_bare : (slant : ℕ) (o p : GridSegment) (dx dy q r : ℕ) → IsRaisedPair slant o p dx dy q r → IsBare o p
    → (b a : ℕ) → b ≤ q → r * b < q * a → rightward o.a o.b p.a + dy * b < leftward o.a o.b p.a + dx * a
over_by_bare slant o p dx dy q r pair bare b a within steep =
    let own = own_sides p in
    let not_under : leftward o.a o.b p.a + dx * a ≤ rightward o.a o.b p.a + dy * b → ⊥ =
    λ under.
    let some = point_of_way slant p q r pair.piece pair.wide p.a b a 0 (omega arith)
    (omega (arith, pair.piece.across)) (omega arith) in
    let g = point_at (p.a.x + b) (p.a.y + a - slant * b) in
    let row : g.y + (slant * b + 0) ≡ p.a.y + a = omega arith in
    let line = sides_at slant o dx dy pair.line p.a g b a 0 refl row in
    let piece = sides_at slant p q r pair.piece p.a g b a 0 refl row in
    (bare g (omega arith) (omega (arith, pair.piece.across))).under_o (omega arith) (omega arith)
    in omega (arith, not_under)

-- nor one that is less steep at the line or over it
under_by_bare : (slant : ℕ) (o p : GridSegment) (dx dy q r : ℕ) → IsRaisedPair slant o p dx dy q r → IsBare o p
    → (b a : ℕ) → b ≤ q → q * a < r * b → leftward o.a o.b p.a + dx * a < rightward o.a o.b p.a + dy * b
under_by_bare slant o p dx dy q r pair bare b a within flat =
    let wide = line_wide slant o p dx dy q r pair in
    let own = own_sides p in
    let not_over : rightward o.a o.b p.a + dy * b ≤ leftward o.a o.b p.a + dx * a → ⊥ =
    λ over.
    let some = point_of_way slant o dx dy pair.line wide p.a b a 0 (omega (arith, pair.first))
    (omega (arith, pair.last, pair.piece.across)) (omega arith) in
    let g = point_at (p.a.x + b) (p.a.y + a - slant * b) in
    let row : g.y + (slant * b + 0) ≡ p.a.y + a = omega arith in
    let line = sides_at slant o dx dy pair.line p.a g b a 0 refl row in
    let piece = sides_at slant p q r pair.piece p.a g b a 0 refl row in
    (bare g (omega arith) (omega (arith, pair.piece.across))).over_o (omega arith) (omega arith)
    in omega (arith, not_over)

-- where no grid point lies from o to p by its sides, the piece is clear
pub clear_by_bare : (slant : ℕ) (o p : GridSegment) (dx dy q r : ℕ) → IsRaisedPair slant o p dx dy q r → IsBare o p
    → IsClear dx dy q r (leftward o.a o.b p.a) (rightward o.a o.b p.a)
clear_by_bare slant o p dx dy q r pair bare = record {
  near = near_by_bare slant o p dx dy q r pair bare;
  over = over_by_bare slant o p dx dy q r pair bare;
  under = under_by_bare slant o p dx dy q r pair bare;
}
