-- That a piece is close to an original by the sides of grid points, where neither is vertical.
use Rattle.std.proofs.Common.{◌*◌, ◌<◌, ◌≤◌, arith, inl, inr}
use Rattle.grid_base.specs.Point.{GridPoint, IsFromTo}
use Rattle.grid_base.specs.Segment.{GridSegment}
use Rattle.grid_base.specs.Places.{RationalPoint, IsPlace}
use Rattle.grid_base.proofs.Turns.{times, times_le, leftward, rightward}
use Rattle.grid_base.proofs.Balances.{from_to_cancels}
use Rattle.grid_base.proofs.Columns.{placed, sides_of_place, under_place, above_place}
use Rattle.hook_chain.specs.Close.{IsCloseUp}
use Rattle.grid_base.specs.Places.{InColumn}

-- a column that has a place of s is in the range of s
pub in_range : (s : GridSegment) (g : GridPoint) (q : RationalPoint) → IsPlace s q → InColumn g q → IsFromTo s.a.x s.b.x g.x
in_range s g q is column = from_to_cancels s.a.x s.b.x g.x q.w is.real (rw (← column) is.across)

-- a grid point not under a place of its column isn't on the right
pub not_under_place : (s : GridSegment) (g : GridPoint) (q : RationalPoint) → s.a.x < s.b.x → IsPlace s q → InColumn g q
    → q.y ≤ g.y * q.w → rightward s.a s.b g ≤ leftward s.a s.b g
not_under_place s g q wide is column at_least =
    let sides = sides_of_place s g q is column in
    let gap = times_le s.a.x s.b.x q.y (g.y * q.w) (omega arith) at_least in
    let not_right : leftward s.a s.b g < rightward s.a s.b g → ⊥ =
    λ right. let below = times (leftward s.a s.b g) (rightward s.a s.b g) 0 q.w right is.real in omega arith in
    omega (arith, not_right)

-- and one not above a place not on the left
pub not_above_place : (s : GridSegment) (g : GridPoint) (q : RationalPoint) → s.a.x < s.b.x → IsPlace s q → InColumn g q
    → g.y * q.w ≤ q.y → leftward s.a s.b g ≤ rightward s.a s.b g
not_above_place s g q wide is column at_most =
    let sides = sides_of_place s g q is column in
    let gap = times_le s.a.x s.b.x (g.y * q.w) q.y (omega arith) at_most in
    let not_left : rightward s.a s.b g < leftward s.a s.b g → ⊥ =
    λ left. let above = times (rightward s.a s.b g) (leftward s.a s.b g) 0 q.w left is.real in omega arith in
    omega (arith, not_left)

-- g doesn't lie from o to p, by its sides: o counts, and p doesn't
pub record IsBareBetween (o p : GridSegment) (g : GridPoint) : Type 0 where
  pub over_o : rightward o.a o.b g ≤ leftward o.a o.b g → leftward p.a p.b g < rightward p.a p.b g → ⊥
  pub under_o : leftward o.a o.b g ≤ rightward o.a o.b g → rightward p.a p.b g < leftward p.a p.b g → ⊥

-- no grid point in the columns of p lies from o to p, by its sides
abbrev pub IsBare : GridSegment → GridSegment → Type 0
IsBare o p = (g : GridPoint) → p.a.x ≤ g.x → g.x ≤ p.b.x → IsBareBetween o p g

-- where no grid point lies from o to p by its sides, p is close
pub close_by_sides : (o p : GridSegment) → o.a.x < o.b.x → p.a.x < p.b.x → IsBare o p → IsCloseUp o p
close_by_sides o p wide_o wide_p bare g r q of_o of_p column_o column_p from =
    let range = in_range p g q of_p column_p in
    let none = bare g (omega arith) (omega arith) in
    elim from [
      | inl up ↦ none.over_o (not_under_place o g r wide_o of_o column_o up.0) (under_place p g q wide_p of_p column_p up.1)
      | inr down ↦ none.under_o (not_above_place o g r wide_o of_o column_o down.0) (above_place p g q wide_p of_p column_p down.1)
    ]

-- where p is close, no grid point in a column of both lies from o to p by its sides
pub bare_by_close : (o p : GridSegment) → o.a.x < o.b.x → p.a.x < p.b.x → IsCloseUp o p
    → (g : GridPoint) → o.a.x ≤ g.x → g.x ≤ o.b.x → p.a.x ≤ g.x → g.x ≤ p.b.x → IsBareBetween o p g
bare_by_close o p wide_o wide_p close g from_o to_o from to =
    let r = placed o g.x wide_o from_o to_o in
    let q = placed p g.x wide_p from to in
    let sides_r = r.sides g.y in
    let sides_q = q.sides g.y in
    record {
      over_o = λ over under. close g r.place q.place r.is q.is r.column q.column (inl (omega arith, omega arith));
      under_o = λ under over. close g r.place q.place r.is q.is r.column q.column (inr (omega arith, omega arith));
    }

-- so none does where p is in the columns of o
pub sides_by_close : (o p : GridSegment) → o.a.x < o.b.x → p.a.x < p.b.x → o.a.x ≤ p.a.x → p.b.x ≤ o.b.x → IsCloseUp o p → IsBare o p
sides_by_close o p wide_o wide_p first last close g from to =
    bare_by_close o p wide_o wide_p close g (omega arith) (omega arith) from to
