-- The walks from the two ends of a piece to a point near it, along the piece's chart and back, are ones that the search can go.
use Rattle.std.proofs.Common.{◌≡◌, ◌≢◌, ℕ, ◌+◌, ◌-◌, ◌*◌, ◌<◌, ◌≤◌, max, Bool, true, false, not, ◌&&◌, nat_lt, unsigned_abs, ℤ, pos, negsuc}
use Rattle.std.proofs.Common.{neg_ℤ, ◌<ℤ◌, ◌≤ℤ◌, refl, sym, ap, subst, arith, inl, inr}
use Rattle.std.proofs.lemmas.Int.{ints}
use Rattle.std.proofs.lemmas.Bool.{leb-true, leb-false, ltb-true, ltb-false, lt-ltb, le-ltb}
use Rattle.grid_base.specs.Point.{GridPoint, point_at, IsBefore, gap, InBox}
use Rattle.grid_base.specs.Segment.{GridSegment, is_flat, width, height}
use Rattle.grid_base.specs.Sides.{turn, Side, Left, On, Right, side}
use Rattle.grid_base.proofs.Turns.{times_le}
use Rattle.segment_envelope.specs.Near.{Near}
use Rattle.hook_chain.specs.declared.charts.Chart.{Chart}
use Rattle.hook_chain.specs.Placing.{course, cross, seen, IsAcross, IsUp, IsPlaced, side_for, IsGoal, are_diagonals, IsCharted, IsSeen}
use Rattle.hook_chain.specs.Placing.{IsChartOf, turned}
use Rattle.hook_chain.proofs.Axes.{Axis, rightwards, upwards, downwards, bend, bend_above}
use Rattle.hook_chain.proofs.Directions.{Follows, flat_follows, rising_follows, falling_follows}
use Rattle.hook_chain.proofs.Placings.{along_for, bend_placed, place_of, start_placed, seen_is}
use Rattle.hook_chain.proofs.PlacedParts.{origin_turn}
use Rattle.hook_chain.proofs.Reversals.{opposite_frames}

-- ---- along the piece
-- a walk by the numbers along steep and back goes along t
pub record IsAlong (t : GridSegment) (steep back : Bool) : Type 0 where
  pub d : ℕ
  pub wide : 0 < d
  pub across : IsAcross back (course steep t.a) d (course steep t.b)
  pub beside : gap (cross steep t.a) (cross steep t.b) ≤ d
  pub run : max (width t) (height t) ≡ d
  pub within : (p : GridPoint) → InBox t.a t.b p
      → (along_for steep back t.a ≤ℤ along_for steep back p) × (along_for steep back p ≤ℤ along_for steep back t.b)
  pub axis : Axis
  pub follows : Follows t axis
  pub way : (p : GridPoint) → axis.along p ≡ along_for steep back p

-- the chart of a piece does, by whether it is flat and whether it falls
along_by : (t : GridSegment) (flat falling : Bool) → IsBefore t.a t.b → is_flat t ≡ flat → nat_lt t.b.y t.a.y ≡ falling
    → IsAlong t (not flat) (not flat && falling)
along_by t true falling ordered is_so falls =
    let at_most = leb-true (height t) (width t) is_so in
    record {
      d = t.b.x - t.a.x;
      wide = omega arith;
      across = omega arith;
      beside = omega arith;
      run = omega arith;
      within = λ p box. (omega (arith, ints, box.0), omega (arith, ints, box.0));
      axis = rightwards;
      follows = flat_follows t (omega arith) is_so;
      way = λ p. refl;
    }
along_by t false false ordered is_so falls =
    let less = leb-false (height t) (width t) is_so in
    let not_less = ltb-false t.b.y t.a.y falls in
    let rises : t.a.y < t.b.y = omega arith in
    record {
      d = t.b.y - t.a.y;
      wide = omega arith;
      across = omega arith;
      beside = omega arith;
      run = omega arith;
      within = λ p box. (omega (arith, ints, box.1), omega (arith, ints, box.1));
      axis = upwards;
      follows = rising_follows t rises is_so (lt-ltb t.a.y t.b.y rises);
      way = λ p. refl;
    }
along_by t false true ordered is_so falls =
    let less = leb-false (height t) (width t) is_so in
    let lower = ltb-true t.b.y t.a.y falls in
    record {
      d = t.a.y - t.b.y;
      wide = omega arith;
      across = omega arith;
      beside = omega arith;
      run = omega arith;
      within = λ p box. (omega (arith, ints, box.1), omega (arith, ints, box.1));
      axis = downwards;
      follows = falling_follows t lower is_so (not_ltb t.a.y t.b.y (omega arith));
      way = λ p. refl;
    }
  where
    not_ltb : (m n : ℕ) → n ≤ m → nat_lt m n ≡ false
    not_ltb m n at_most = le-ltb m n at_most

-- ---- across the piece
-- the rows of a walk along the chart of a piece rise, and not more than the columns
up_by : (under sheared : Bool) (start end d : ℕ) → gap start end ≤ d → sheared ≡ are_diagonals under start end
    → (c : ℕ) × IsUp under sheared start d c end × (c ≤ d)
up_by false false start end d beside is = let not_less = ltb-false end start (sym is) in (end - start, omega arith, omega arith)
up_by false true start end d beside is = let less = ltb-true end start (sym is) in ((end + d) - start, omega arith, omega arith)
up_by true false start end d beside is = let not_less = ltb-false start end (sym is) in (start - end, omega arith, omega arith)
up_by true true start end d beside is = let less = ltb-true start end (sym is) in ((start + d) - end, omega arith, omega arith)

-- the rows of the way back rise by the rest
up_back : (under sheared : Bool) (start end c d : ℕ) → c ≤ d → IsUp under sheared start d c end
    → IsUp under (not sheared) end d (d - c) start
up_back false false start end c d at_most is = omega arith
up_back false true start end c d at_most is = omega arith
up_back true false start end c d at_most is = omega arith
up_back true true start end c d at_most is = omega arith

across_back : (back : Bool) (start end d : ℕ) → IsAcross back start d end → IsAcross (not back) end d start
across_back false start end d is = omega arith
across_back true start end d is = omega arith

-- the way back leads from the other end to the start
placed_back : (chart : Chart) (start end : GridPoint) (c d : ℕ) → c ≤ d → IsPlaced chart start (point_at d c) end
    → IsPlaced (turned chart) end (point_at d (d - c)) start
placed_back chart start end c d at_most is = record {
  across = across_back chart.back (course chart.steep start) (course chart.steep end) d is.across;
  up = up_back chart.under chart.sheared (cross chart.steep start) (cross chart.steep end) c d at_most is.up;
}

-- ---- the walk to a near point
-- no number of rows above 0 is above 0 and below 1
no_fraction : (d n : ℕ) → 0 < d * n → d * n < d → ⊥
no_fraction d n some less =
    let not_none : n ≡ 0 → ⊥ = λ none. let product = ap (λ (m : ℕ). d * m) none in omega arith in
    let product = times_le 0 d 1 n (omega arith) (omega (arith, not_none)) in
    omega arith

-- a point less than 1 above the line, by its place
goal_at : (c d : ℕ) (goal : GridPoint) → 0 < d → c ≤ d → c * goal.x < d * goal.y → d * goal.y < c * goal.x + d
    → IsGoal c d goal
goal_at c d goal wide at_most above low =
    let not_level : c ≡ 0 → ⊥ = λ level.
    let product = ap (λ (n : ℕ). n * goal.x) level in
    no_fraction d goal.y (omega arith) (omega arith) in
    let not_diagonal : c ≡ d → ⊥ = λ diagonal.
    let product = ap (λ (n : ℕ). n * goal.x) diagonal in
    let less : goal.x < goal.y = (let no : goal.y ≤ goal.x → ⊥ = λ under. let gaps = times_le 0 d goal.y goal.x
    (omega arith) under in omega arith in omega (arith, no)) in
    let gaps = times_le 0 d (goal.x + 1) goal.y (omega arith) (omega arith) in
    omega arith in
    let not_at_start : goal.x ≡ 0 → ⊥ = λ first.
    let product = ap (λ (n : ℕ). c * n) first in
    no_fraction d goal.y (omega arith) (omega arith) in
    let not_steeper : goal.x < goal.y → ⊥ = λ steeper.
    let rise = times_le 0 d (goal.x + 1) goal.y (omega arith) (omega arith) in
    let run = times_le c d 0 goal.x at_most (omega arith) in
    omega arith in
    record {
      rising = omega (arith, not_level);
      proper = omega (arith, not_diagonal);
      above = omega arith;
      low = low;
      later = omega (arith, not_at_start);
      gentle = omega (arith, not_steeper);
    }

-- a point beyond the line by less than a column's step has a walk to it
charted_by : (chart : Chart) (start end x : GridPoint) (c d : ℕ) → 0 < d → c ≤ d → IsPlaced chart start (point_at d c) end
    → along_for chart.steep chart.back start ≤ℤ along_for chart.steep chart.back x
    → pos 0 <ℤ bend (side_for chart.steep chart.back chart.under) start end x
    → bend (side_for chart.steep chart.back chart.under) start end x <ℤ pos d
    → (goal : GridPoint) × IsCharted chart start end x c d goal
charted_by chart start end x c d wide at_most at_end ahead beyond near =
    let at = place_of chart start end x c d wide at_end ahead (omega (arith, ints)) in
    let bends = bend_placed chart start (point_at 0 0) (point_at d c) at.0 start end x (start_placed chart start) at_end at.1 in
    let line = origin_turn c d at.0 in
    (at.0, record { goal_is = goal_at c d at.0 wide at_most (omega (arith, ints)) (omega (arith, ints)); end_at = at_end; x_at = at.1 })

-- ---- the two walks of a hook
-- a number is below what its size is below, and so is its negation
below_by_size : (z : ℤ) (n : ℕ) → unsigned_abs z < n → (z <ℤ pos n) × (neg_ℤ z <ℤ pos n)
below_by_size (pos m) n less = (omega (arith, ints), omega (arith, ints))
below_by_size (negsuc m) n less = (omega (arith, ints), omega (arith, ints))

-- the size of a bend is that of the turn
bend_below : (s : Side) (v w p : GridPoint) (n : ℕ) → unsigned_abs (turn v w p) < n → bend s v w p <ℤ pos n
bend_below Left v w p n less = (below_by_size (turn v w p) n less).0
bend_below On v w p n less = (below_by_size (turn v w p) n less).1
bend_below Right v w p n less = (below_by_size (turn v w p) n less).1

-- a walk by the chart of t goes along t
pub along_chart : (t : GridSegment) (x : GridPoint) (chart : Chart) → IsBefore t.a t.b → IsChartOf t x chart
    → IsAlong t chart.steep chart.back
along_chart t x chart ordered is =
    subst (λ (b : Bool). IsAlong t chart.steep b) (sym is.back)
    (subst (λ (b : Bool). IsAlong t b (b && nat_lt t.b.y t.a.y)) (sym is.steep)
    (along_by t (is_flat t) (nat_lt t.b.y t.a.y) ordered refl refl))

-- the side of x is that of the chart's rows
pub side_is : (t : GridSegment) (x : GridPoint) (chart : Chart) → IsChartOf t x chart → side t.a t.b x ≢ On
    → side t.a t.b x ≡ side_for chart.steep chart.back chart.under
side_is t x chart is off = elim is.under [ inl on ↦ absurd (off on) | inr same ↦ same ]

-- what is charted is seen
seen_charted : (chart : Chart) (start end x : GridPoint) (c d : ℕ) (goal : GridPoint) → IsCharted chart start end x c d goal
    → IsSeen chart start end x
seen_charted chart start end x c d goal charted =
    let line = seen_is chart start (point_at d c) end charted.end_at in
    let place = seen_is chart start goal x charted.x_at in
    subst (λ (p : GridPoint). IsCharted chart start end x p.y p.x (seen chart start x)) (sym line)
    (subst (λ (p : GridPoint). IsCharted chart start end x c d p) (sym place) charted)

-- the walks from both ends
pub record AreCharted (t : GridSegment) (x : GridPoint) (chart : Chart) : Type 0 where
  pub first : IsSeen chart t.a t.b x
  pub second : IsSeen (turned chart) t.b t.a x

-- a near point beside a piece has walks to it from both ends
pub both_charted : (t : GridSegment) (x : GridPoint) (chart : Chart) → IsBefore t.a t.b → IsChartOf t x chart → Near t x
    → side t.a t.b x ≢ On → AreCharted t x chart
both_charted t x chart ordered is near off =
    let along = along_chart t x chart ordered is in
    let same = side_is t x chart is off in
    let s = side_for chart.steep chart.back chart.under in
    let up = up_by chart.under chart.sheared (cross chart.steep t.a) (cross chart.steep t.b) along.d along.beside is.sheared in
    let at_b : IsPlaced chart t.a (point_at along.d up.0) t.b = record { across = along.across; up = up.1 } in
    let at_a = placed_back chart t.a t.b up.0 along.d up.2 at_b in
    let within = along.within x near.box in
    let above : pos 0 <ℤ bend s t.a t.b x = subst (λ (r : Side). pos 0 <ℤ bend r t.a t.b x) same
    (bend_above (side t.a t.b x) t.a t.b x off refl) in
    let low : bend s t.a t.b x <ℤ pos along.d = subst (λ (n : ℕ). bend s t.a t.b x <ℤ pos n) along.run
    (bend_below s t.a t.b x (max (width t) (height t)) near.near) in
    let opposite = opposite_frames chart.steep chart.back chart.under t.a t.b in
    let line = opposite.line x in
    let at_x = opposite.along x in
    let at_end = opposite.along t.b in
    let first = charted_by chart t.a t.b x up.0 along.d along.wide up.2 at_b within.0 above low in
    let second = charted_by (turned chart) t.b t.a x (along.d - up.0) along.d along.wide (omega arith) at_a (omega (arith, ints))
    (omega (arith, ints)) (omega (arith, ints)) in
    record {
      first = seen_charted chart t.a t.b x up.0 along.d first.0 first.1;
      second = seen_charted (turned chart) t.b t.a x (along.d - up.0) along.d second.0 second.1;
    }
