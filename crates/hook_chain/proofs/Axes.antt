-- The axes that pieces follow, and how three points bend towards a side: how far along a point is, and what turns say of that.
use Rattle.std.proofs.Common.{◌≡◌, ◌≢◌, ◌⊎◌, ℕ, ◌+◌, ◌*◌, ℤ, pos, ◌-ℤ◌, ◌*ℤ◌, neg_ℤ, ◌<ℤ◌, ◌≤ℤ◌, refl, sym, ap, ◌∙◌, arith, inl, inr}
use Rattle.std.proofs.lemmas.Int.{ints}
use borrow.Author.Differences.{up, down}
use Rattle.grid_base.specs.Point.{GridPoint}
use Rattle.grid_base.specs.Segment.{exchanged_point}
use Rattle.grid_base.specs.Sides.{turn, Side, Left, On, Right, side}
use Rattle.grid_base.proofs.Turns.{leftward, rightward, difference-*, turn_is, left_is, right_is, on_is}
use Rattle.grid_base.proofs.Balances.{gap_cancels}
use Rattle.grid_base.proofs.Ends.{same_point}

-- ---- axes
-- an axis: how far along it a point is, and what turns say of that
pub record Axis : Type 0 where
  pub along : GridPoint → ℤ
  -- how the way from w to z turns towards q, by how the way from v to w turns towards both
  pub next : (v w z q : GridPoint)
      → turn w z q *ℤ (along w -ℤ along v) ≡ (turn v w q *ℤ (along z -ℤ along w)) -ℤ (turn v w z *ℤ (along q -ℤ along w))
  -- two points as far along and on one line with a third that is less far along are one
  pub same : (v w q : GridPoint) → along v <ℤ along w → along w ≡ along q → turn v w q ≡ pos 0 → w ≡ q

-- an equation of products of integers that are differences of naturals, from their parts
by_parts : (c j a k b m : ℤ) (cl cr jl jr al ar kl kr bl br ml mr : ℕ)
    → c ≡ pos cl -ℤ pos cr → j ≡ pos jl -ℤ pos jr → a ≡ pos al -ℤ pos ar → k ≡ pos kl -ℤ pos kr → b ≡ pos bl -ℤ pos br
    → m ≡ pos ml -ℤ pos mr
    → (cl * jl + cr * jr) + (al * kr + ar * kl) + (bl * ml + br * mr) ≡ (cl * jr + cr * jl) + (al * kl + ar * kr) + (bl * mr + br * ml)
    → c *ℤ j ≡ (a *ℤ k) -ℤ (b *ℤ m)
by_parts c j a k b m cl cr jl jr al ar kl kr bl br ml mr c_is j_is a_is k_is b_is m_is parts =
    (λ i. c_is i *ℤ j_is i) ∙ difference-* cl cr jl jr ∙ middle ∙ sym (λ i. (a_is i *ℤ k_is i) -ℤ (b_is i *ℤ m_is i))
  where
    middle : pos (cl * jl + cr * jr) -ℤ pos (cl * jr + cr * jl)
        ≡ ((pos al -ℤ pos ar) *ℤ (pos kl -ℤ pos kr)) -ℤ ((pos bl -ℤ pos br) *ℤ (pos ml -ℤ pos mr))
    middle = rw (difference-* al ar kl kr, difference-* bl br ml mr) (omega (arith, ints))

-- a turn of 0 is one whose two sums are equal
balanced : (v w q : GridPoint) → turn v w q ≡ pos 0 → leftward v w q ≡ rightward v w q
balanced v w q none = let sums = sym (turn_is v w q) ∙ none in omega (arith, ints)

-- two points of one column, on one line with a point of another
pub same_in_column : (v w q : GridPoint) → w.x ≢ v.x → w.x ≡ q.x → leftward v w q ≡ rightward v w q → w ≡ q
same_in_column v w q apart column line =
    let at_v = ap (λ (n : ℕ). v.y * n) column in
    let at_w = ap (λ (n : ℕ). w.y * n) column in
    same_point w q column (gap_cancels w.y q.y w.x v.x apart (omega arith))

-- and two of one row, on one line with a point of another
pub same_in_row : (v w q : GridPoint) → w.y ≢ v.y → w.y ≡ q.y → leftward v w q ≡ rightward v w q → w ≡ q
same_in_row v w q apart row line =
    ap exchanged_point (same_in_column (exchanged_point v) (exchanged_point w) (exchanged_point q) apart row (omega arith))

-- by columns
abbrev pub column : GridPoint → ℤ
column p = pos p.x

-- by rows, upwards
abbrev pub row : GridPoint → ℤ
row p = pos p.y

-- by rows, downwards
abbrev pub depth : GridPoint → ℤ
depth p = neg_ℤ (pos p.y)

depth_gap : (v w : GridPoint) → depth w -ℤ depth v ≡ pos v.y -ℤ pos w.y
depth_gap v w = omega (arith, ints)

-- what the axes say of turns
pub next_by_columns : (v w z q : GridPoint) → turn w z q *ℤ (column w -ℤ column v)
    ≡ (turn v w q *ℤ (column z -ℤ column w)) -ℤ (turn v w z *ℤ (column q -ℤ column w))
next_by_columns v w z q = by_parts _ _ _ _ _ _ (leftward w z q) (rightward w z q) w.x v.x (leftward v w q) (rightward v w q) z.x w.x
    (leftward v w z) (rightward v w z) q.x w.x (turn_is w z q) refl (turn_is v w q) refl (turn_is v w z) refl (omega arith)

pub next_by_rows : (v w z q : GridPoint)
    → turn w z q *ℤ (row w -ℤ row v) ≡ (turn v w q *ℤ (row z -ℤ row w)) -ℤ (turn v w z *ℤ (row q -ℤ row w))
next_by_rows v w z q = by_parts _ _ _ _ _ _ (leftward w z q) (rightward w z q) w.y v.y (leftward v w q) (rightward v w q) z.y w.y
    (leftward v w z) (rightward v w z) q.y w.y (turn_is w z q) refl (turn_is v w q) refl (turn_is v w z) refl (omega arith)

pub next_by_depths : (v w z q : GridPoint) → turn w z q *ℤ (depth w -ℤ depth v)
    ≡ (turn v w q *ℤ (depth z -ℤ depth w)) -ℤ (turn v w z *ℤ (depth q -ℤ depth w))
next_by_depths v w z q = by_parts _ _ _ _ _ _ (leftward w z q) (rightward w z q) v.y w.y (leftward v w q) (rightward v w q) w.y z.y
    (leftward v w z) (rightward v w z) w.y q.y (turn_is w z q) (depth_gap v w) (turn_is v w q) (depth_gap w z) (turn_is v w z)
    (depth_gap w q)
    (omega arith)

pub same_by_columns : (v w q : GridPoint) → column v <ℤ column w → column w ≡ column q → turn v w q ≡ pos 0 → w ≡ q
same_by_columns v w q before at line = same_in_column v w q (omega (arith, ints)) (omega (arith, ints)) (balanced v w q line)

pub same_by_rows : (v w q : GridPoint) → row v <ℤ row w → row w ≡ row q → turn v w q ≡ pos 0 → w ≡ q
same_by_rows v w q before at line = same_in_row v w q (omega (arith, ints)) (omega (arith, ints)) (balanced v w q line)

pub same_by_depths : (v w q : GridPoint) → depth v <ℤ depth w → depth w ≡ depth q → turn v w q ≡ pos 0 → w ≡ q
same_by_depths v w q before at line = same_in_row v w q (omega (arith, ints)) (omega (arith, ints)) (balanced v w q line)

-- for flat pieces
abbrev pub rightwards : Axis
rightwards = record { along = column; next = next_by_columns; same = same_by_columns }

-- for steep pieces that rise
abbrev pub upwards : Axis
upwards = record { along = row; next = next_by_rows; same = same_by_rows }

-- for steep pieces that fall
abbrev pub downwards : Axis
downwards = record { along = depth; next = next_by_depths; same = same_by_depths }

-- ---- sides
-- how the way from v to w bends towards p, above 0 where p is on the side s
abbrev pub bend : Side → GridPoint → GridPoint → GridPoint → ℤ
bend Left v w p = turn v w p
bend On v w p = neg_ℤ (turn v w p)
bend Right v w p = neg_ℤ (turn v w p)

-- the same point is seen on the other side from the way to it
turn-swap : (v w q : GridPoint) → turn v q w ≡ neg_ℤ (turn v w q)
turn-swap v w q = turn_is v q w ∙ swapped ∙ ap neg_ℤ (sym (turn_is v w q))
  where
    swapped : pos (leftward v q w) -ℤ pos (rightward v q w) ≡ neg_ℤ (pos (leftward v w q) -ℤ pos (rightward v w q))
    swapped = omega (arith, ints)

pub bend_swap : (s : Side) (v w q : GridPoint) → bend s v q w ≡ neg_ℤ (bend s v w q)
bend_swap Left v w q = turn-swap v w q
bend_swap On v w q = ap neg_ℤ (turn-swap v w q)
bend_swap Right v w q = ap neg_ℤ (turn-swap v w q)

-- the way back bends the other way
pub turn_back : (v w p : GridPoint) → turn w v p ≡ neg_ℤ (turn v w p)
turn_back v w p =
    let forth = turn_is v w p in
    let back = turn_is w v p in
    let sums : leftward w v p + leftward v w p ≡ rightward w v p + rightward v w p = omega arith in
    omega (arith, ints)

pub bend_back : (s : Side) (v w p : GridPoint) → bend s w v p ≡ neg_ℤ (bend s v w p)
bend_back Left v w p = turn_back v w p
bend_back On v w p = ap neg_ℤ (turn_back v w p)
bend_back Right v w p = ap neg_ℤ (turn_back v w p)

-- a point bends the way above 0 where it is on the side s
pub bend_above : (s : Side) (v w p : GridPoint) → s ≢ On → side v w p ≡ s → pos 0 <ℤ bend s v w p
bend_above Left v w p off is = let sums = left_is v w p is in let turns = turn_is v w p in omega (arith, ints)
bend_above On v w p off is = absurd (off refl)
bend_above Right v w p off is = let sums = right_is v w p is in let turns = turn_is v w p in omega (arith, ints)

-- and not below 0 where it is on the line or on the side s
pub bend_not_below : (s : Side) (v w p : GridPoint) → s ≢ On → (side v w p ≡ On) ⊎ (side v w p ≡ s) → pos 0 ≤ℤ bend s v w p
bend_not_below Left v w p off (inl on) = let sums = on_is v w p on in let turns = turn_is v w p in omega (arith, ints)
bend_not_below On v w p off (inl on) = absurd (off refl)
bend_not_below Right v w p off (inl on) = let sums = on_is v w p on in let turns = turn_is v w p in omega (arith, ints)
bend_not_below s v w p off (inr is) = let above = bend_above s v w p off is in omega (arith, ints)

-- an integer as a difference
parted : (a : ℤ) → a ≡ pos (up a) -ℤ pos (down a)
parted a = omega (arith, ints)

parted_neg : (a : ℤ) → neg_ℤ a ≡ pos (down a) -ℤ pos (up a)
parted_neg a = omega (arith, ints)

-- a product whose first factor is negated
neg_ℤ-*ℤ : (a k : ℤ) → neg_ℤ a *ℤ k ≡ neg_ℤ (a *ℤ k)
neg_ℤ-*ℤ a k =
    (λ i. parted_neg a i *ℤ parted k i) ∙ difference-* (down a) (up a) (up k) (down k) ∙ negated
    ∙ ap neg_ℤ (sym ((λ i. parted a i *ℤ parted k i) ∙ difference-* (up a) (down a) (up k) (down k)))
  where
    negated : pos (down a * up k + up a * down k) -ℤ pos (down a * down k + up a * up k)
        ≡ neg_ℤ (pos (up a * up k + down a * down k) -ℤ pos (up a * down k + down a * up k))
    negated = omega (arith, ints)

-- what an axis says of turns, said of them with their signs changed
next_negated : (axis : Axis) (v w z q : GridPoint) → neg_ℤ (turn w z q) *ℤ (axis.along w -ℤ axis.along v)
    ≡ (neg_ℤ (turn v w q) *ℤ (axis.along z -ℤ axis.along w)) -ℤ (neg_ℤ (turn v w z) *ℤ (axis.along q -ℤ axis.along w))
next_negated axis v w z q =
    rw (
      neg_ℤ-*ℤ (turn w z q) (axis.along w -ℤ axis.along v),
      neg_ℤ-*ℤ (turn v w q) (axis.along z -ℤ axis.along w),
      neg_ℤ-*ℤ (turn v w z) (axis.along q -ℤ axis.along w),
      axis.next v w z q,
    )
    (omega (arith, ints))

-- and of bends
pub bend_next : (axis : Axis) (s : Side) (v w z q : GridPoint) → bend s w z q *ℤ (axis.along w -ℤ axis.along v)
    ≡ (bend s v w q *ℤ (axis.along z -ℤ axis.along w)) -ℤ (bend s v w z *ℤ (axis.along q -ℤ axis.along w))
bend_next axis Left v w z q = axis.next v w z q
bend_next axis On v w z q = next_negated axis v w z q
bend_next axis Right v w z q = next_negated axis v w z q

-- a bend of 0 is a turn of 0
bend_none : (s : Side) (v w q : GridPoint) → bend s v w q ≡ pos 0 → turn v w q ≡ pos 0
bend_none Left v w q none = none
bend_none On v w q none = omega (arith, ints)
bend_none Right v w q none = omega (arith, ints)

pub bend_same : (axis : Axis) (s : Side) (v w q : GridPoint) → axis.along v <ℤ axis.along w → axis.along w ≡ axis.along q
    → bend s v w q ≡ pos 0 → w ≡ q
bend_same axis s v w q before at none = axis.same v w q before at (bend_none s v w q none)
