-- That the place of a column, rounded down and rounded up, gives the least and the greatest near point there.
use Rattle.std.proofs.Common.{ℕ, ◌+◌, ◌*◌, ◌<◌, ◌≤◌, ap, arith}
use Rattle.std.proofs.Math.Nat.{lt_of_mul-lt-mul_right}
use Rattle.grid_base.specs.Point.{IsBefore}
use Rattle.grid_base.specs.Segment.{GridSegment}
use Rattle.grid_base.proofs.Balances.{factor_cancels_le}
use Rattle.segment_envelope.specs.ColumnPair.{IsColumn, at_column, IsColumnPair, AreNextTo}
use Rattle.segment_envelope.specs.Course.{IsCourseOf, IsOnGrid, AreRoundings, run, weighted}
use Rattle.segment_envelope.specs.declared.columns.Course.{Course}
use Rattle.segment_envelope.proofs.Distances.{IsSeen, seen_near, seen_on}
use Rattle.segment_envelope.proofs.Courses.{column_of_course, course_seen}

-- the points of column k of s are seen from a place at n / d
record IsColumnSeen (s : GridSegment) (k n d : ℕ) : Type 0 where
  real : 0 < d
  column : IsColumn s k
  seen : (y : ℕ) → IsSeen s (at_column s k y) (y * d) n d

-- the two roundings of the place are the least and the greatest near point
roundings_are_pair : (s : GridSegment) (k n d down up : ℕ) → IsColumnSeen s k n d → AreRoundings n d down up → IsColumnPair s k down up
roundings_are_pair s k n d down up place rounded = record {
  column = place.column;
  least_is_near = (seen_near s _ _ n d (place.seen down)).1 (omega (arith, rounded.not_above, rounded.next_above));
  greatest_is_near = (seen_near s _ _ n d (place.seen up)).1 (omega (arith, rounded.not_below, rounded.close_below));
  no_other = λ y near.
      let close = (seen_near s _ _ n d (place.seen y)).0 near in
      let from = lt_of_mul-lt-mul_right d {m = down} {n = y + 1} (omega (arith, rounded.not_above)) in
      let to = lt_of_mul-lt-mul_right d {m = y} {n = up + 1} (omega (arith, rounded.not_below)) in
      (omega arith, omega arith);
}

-- they are one, exactly where it is on s, or next to each other
roundings_are_next_to : (s : GridSegment) (k n d down up : ℕ) → IsColumnSeen s k n d → AreRoundings n d down up → AreNextTo s k down up
roundings_are_next_to s k n d down up place rounded = record {
  adjacent =
      let close = lt_of_mul-lt-mul_right d {m = up} {n = down + 2} (omega (arith, rounded.next_above, rounded.close_below)) in
      omega arith;
  one_is_on = λ one.
      let same = ap (λ (m : ℕ). m * d) one in
      (seen_on s _ _ n d (place.seen down)).1 (omega (arith, rounded.not_above, rounded.not_below));
  on_is_both = λ y on.
      let same = (seen_on s _ _ n d (place.seen y)).0 on in
      let from = factor_cancels_le down y d place.real (omega (arith, rounded.not_above)) in
      let before = lt_of_mul-lt-mul_right d {m = y} {n = down + 1} (omega (arith, rounded.next_above)) in
      let to = factor_cancels_le y up d place.real (omega (arith, rounded.not_below)) in
      let after = lt_of_mul-lt-mul_right d {m = up} {n = y + 1} (omega (arith, rounded.close_below)) in
      (omega arith, omega arith);
}

-- the place of a course in column k, rounded down and up, is the column's pair
pub course_pair : (s : GridSegment) (c : Course) (k down up : ℕ) → IsBefore s.a s.b → IsCourseOf s c → IsOnGrid c → c.from ≤ k → k ≤ c.to
    → AreRoundings (weighted c k) (run c) down up → IsColumnPair s k down up × AreNextTo s k down up
course_pair s c k down up ordered course on_grid from to rounded =
    (roundings_are_pair s k _ _ down up place rounded, roundings_are_next_to s k _ _ down up place rounded)
  where
    place : IsColumnSeen s k (weighted c k) (run c)
    place = record {
      real = omega (arith, on_grid.forward);
      column = column_of_course s c k course from to;
      seen = course_seen s c k ordered course on_grid from to;
    }
