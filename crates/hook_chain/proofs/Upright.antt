-- That a vertical piece is close by columns exactly where it is one high and the original passes strictly between its ends.
use Rattle.std.proofs.Common.{◌≡◌, ℕ, ◌+◌, ◌*◌, ◌<◌, ◌≤◌, ap, arith, inl, inr}
use Rattle.std.proofs.Math.Nat.{lt_of_mul-lt-mul_right}
use Rattle.grid_base.specs.Point.{GridPoint, point_at, IsBefore}
use Rattle.grid_base.specs.Segment.{GridSegment}
use Rattle.grid_base.specs.Sides.{Left, Right, side}
use Rattle.grid_base.specs.Places.{RationalPoint, IsPlace}
use Rattle.grid_base.proofs.Turns.{times_le, leftward, rightward, left_is, right_is, left_by, right_by}
use Rattle.grid_base.proofs.Lines.{IsOnLine, line_by}
use Rattle.grid_base.proofs.Columns.{placed}
use Rattle.hook_chain.specs.Close.{IsCloseUp}
use Rattle.grid_base.specs.Places.{InColumn}
use Rattle.grid_base.proofs.Signs.{natural_order}
use Rattle.hook_chain.proofs.Closes.{in_range, not_under_place, not_above_place}

-- the grid point (x, y) as a rational point
abbrev pub grid_place : ℕ → ℕ → RationalPoint
grid_place x y = record { x = x; y = y; w = 1 }

-- the ends of a segment are places of it
pub place_a : (s : GridSegment) → IsPlace s (grid_place s.a.x s.a.y)
place_a s =
    let line : IsOnLine s (grid_place s.a.x s.a.y) = omega arith in
    record { real = omega arith; line = line_by s (grid_place s.a.x s.a.y) line; across = omega arith; up = omega arith }

pub place_b : (s : GridSegment) → IsPlace s (grid_place s.b.x s.b.y)
place_b s =
    let line : IsOnLine s (grid_place s.b.x s.b.y) = omega arith in
    record { real = omega arith; line = line_by s (grid_place s.b.x s.b.y) line; across = omega arith; up = omega arith }

-- p is vertical and rises, and lies in the columns of o
pub record IsUpright (o p : GridSegment) : Type 0 where
  pub wide : o.a.x < o.b.x
  pub first : o.a.x ≤ p.a.x
  pub last : p.a.x ≤ o.b.x
  pub column : p.b.x ≡ p.a.x
  pub up : p.a.y < p.b.y

-- p is one high, and o passes strictly between its ends
pub record IsStraddled (o p : GridSegment) : Type 0 where
  pub one_high : p.b.y ≡ p.a.y + 1
  pub over_a : leftward o.a o.b p.a < rightward o.a o.b p.a
  pub under_b : rightward o.a o.b p.b < leftward o.a o.b p.b

-- a place of such an original is strictly between
place_over_a : (o p : GridSegment) (g : GridPoint) (r : RationalPoint) → IsUpright o p → IsStraddled o p → IsPlace o r → g.x ≡ p.a.x
    → InColumn g r → p.a.y * r.w < r.y
place_over_a o p g r upright straddled of_o here column =
    let in_a : InColumn p.a r = rw here at column in
    let not_under : r.y ≤ p.a.y * r.w → ⊥ = λ under.
    let left = not_under_place o p.a r upright.wide of_o in_a under in omega (arith, straddled.over_a) in
    omega (arith, not_under)

place_under_b : (o p : GridSegment) (g : GridPoint) (r : RationalPoint) → IsUpright o p → IsStraddled o p → IsPlace o r → g.x ≡ p.a.x
    → InColumn g r → r.y < p.b.y * r.w
place_under_b o p g r upright straddled of_o here column =
    let same : g.x ≡ p.b.x = omega (arith, upright.column) in
    let in_b : InColumn p.b r = rw same at column in
    let not_over : p.b.y * r.w ≤ r.y → ⊥ = λ over.
    let right = not_above_place o p.b r upright.wide of_o in_b over in omega (arith, straddled.under_b) in
    omega (arith, not_over)

-- a piece that is straddled is close
pub close_by_straddled : (o p : GridSegment) → IsUpright o p → IsStraddled o p → IsCloseUp o p
close_by_straddled o p upright straddled g r q of_o of_p column_o column_p from =
    let range = in_range p g q of_p column_p in
    let here : g.x ≡ p.a.x = omega (arith, upright.column) in
    let over_a = place_over_a o p g r upright straddled of_o here column_o in
    let under_b = place_under_b o p g r upright straddled of_o here column_o in
    let rows = of_p.up in
    let high = times_le p.a.y p.b.y 0 q.w (omega (arith, upright.up)) (omega arith) in
    elim from [
      | inl up ↦
          let over = lt_of_mul-lt-mul_right r.w {m = p.a.y} {n = g.y} (omega arith) in
          let under = lt_of_mul-lt-mul_right q.w {m = g.y} {n = p.b.y} (omega arith) in
          omega (arith, straddled.one_high)
      | inr down ↦
          let under = lt_of_mul-lt-mul_right r.w {m = g.y} {n = p.b.y} (omega arith) in
          let over = lt_of_mul-lt-mul_right q.w {m = p.a.y} {n = g.y} (omega arith) in
          omega (arith, straddled.one_high)
    ]

-- a vertical piece that is close is straddled
pub straddled_by_close : (o p : GridSegment) → IsUpright o p → IsCloseUp o p → IsStraddled o p
straddled_by_close o p upright close =
    let r = placed o p.a.x upright.wide upright.first upright.last in
    let column_b : InColumn p.b r.place = rw upright.column r.column in
    let sides_a = r.sides p.a.y in
    let sides_b = r.sides p.b.y in
    let column_a_y = ap (λ (n : ℕ). n * o.a.y) upright.column in
    let column_b_y = ap (λ (n : ℕ). o.b.y * n) upright.column in
    let not_under_a : r.place.y ≤ p.a.y * r.place.w → ⊥ =
    λ under. close p.a r.place (grid_place p.b.x p.b.y) r.is (place_b p) r.column (omega (arith, upright.column))
    (inl (under, omega (arith, upright.up))) in
    let not_over_b : p.b.y * r.place.w ≤ r.place.y → ⊥ =
    λ over. close p.b r.place (grid_place p.a.x p.a.y) r.is (place_a p) column_b (omega (arith, upright.column))
    (inr (over, omega (arith, upright.up))) in
    let between = point_at p.a.x (p.a.y + 1) in
    let not_higher : p.a.y + 1 < p.b.y → ⊥ =
    λ higher. elim (natural_order r.place.y ((p.a.y + 1) * r.place.w)) [
      | inl over ↦ close between r.place (grid_place p.b.x p.b.y) r.is (place_b p) r.column (omega (arith, upright.column))
          (inl (over, omega arith))
      | inr under ↦ close between r.place (grid_place p.a.x p.a.y) r.is (place_a p) r.column (omega arith)
          (inr (omega arith, omega arith))
    ] in
    record {
      one_high = omega (arith, upright.up, not_higher);
      over_a = omega (arith, not_under_a);
      under_b = omega (arith, not_over_b);
    }

-- the same by the sides of the ends: a vertical piece with its ends in order is upright
pub upright_by : (o p : GridSegment) → o.a.x < o.b.x → (o.a.x ≤ p.a.x) × (p.b.x ≤ o.b.x) → p.b.x ≤ p.a.x → IsBefore p.a p.b → IsUpright o p
upright_by o p wide within upright ordered = record {
  wide = wide;
  first = within.0;
  last = omega arith;
  column = omega arith;
  up = omega arith;
}

-- a piece one high is close where the ends are on both sides of the original
pub close_by_ends : (o p : GridSegment) → IsUpright o p → p.b.y ≡ p.a.y + 1
    → (side o.a o.b p.a ≡ Right) × (side o.a o.b p.b ≡ Left) → IsCloseUp o p
close_by_ends o p upright one_high ends = close_by_straddled o p upright
    (record { one_high = one_high; over_a = right_is o.a o.b p.a ends.0; under_b = left_is o.a o.b p.b ends.1 })

-- and the ends are so where it is close
pub ends_by_close : (o p : GridSegment) → IsUpright o p → IsCloseUp o p → (side o.a o.b p.a ≡ Right) × (side o.a o.b p.b ≡ Left)
ends_by_close o p upright close =
    let straddled = straddled_by_close o p upright close in
    (right_by o.a o.b p.a straddled.over_a, left_by o.a o.b p.b straddled.under_b)
