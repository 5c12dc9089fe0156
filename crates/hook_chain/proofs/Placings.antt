-- The places of a walk and the points of the grid at them: they turn alike, so what is proved of the one holds of the other.
use Rattle.std.proofs.Common.{◌≡◌, ℕ, ◌+◌, ◌-◌, ◌*◌, ◌<◌, ◌≤◌, Bool, true, false, if◌then◌else◌, ℤ, pos, ◌-ℤ◌, ◌+ℤ◌, neg_ℤ, ◌≤ℤ◌, refl, sym}
use Rattle.std.proofs.Common.{ap, subst, ◌∙◌, arith}
use Rattle.std.proofs.lemmas.Int.{ints}
use Rattle.grid_base.specs.Point.{GridPoint, point_at}
use Rattle.grid_base.specs.Sides.{turn}
use Rattle.grid_base.proofs.Ends.{same_point}
use Rattle.grid_base.proofs.Balances.{factor_cancels_le}
use Rattle.hook_chain.specs.Parts.{IsInReach}
use Rattle.grid_base.proofs.Turns.{leftward, rightward, turn_is}
use Rattle.hook_chain.specs.declared.charts.Chart.{Chart}
use Rattle.hook_chain.specs.Placing.{course, cross, passed, passing, raised, rising, placed, seen, IsAcross, IsUp, IsPlaced, side_for}
use Rattle.hook_chain.proofs.Axes.{bend, column, row, depth}

-- ---- one coordinate
-- an integer or its negation
abbrev flip : Bool → ℤ → ℤ
flip false z = z
flip true z = neg_ℤ z

-- a turn is that of other points where the sums are the same
turn_kept : (p q r p1 q1 r1 : GridPoint)
    → leftward p q r + rightward p1 q1 r1 ≡ rightward p q r + leftward p1 q1 r1
    → turn p q r ≡ turn p1 q1 r1
turn_kept p q r p1 q1 r1 sums =
    let grid = turn_is p q r in
    let walk = turn_is p1 q1 r1 in
    omega (arith, ints)

-- and the opposite one where they are exchanged
turn_flipped : (p q r p1 q1 r1 : GridPoint)
    → leftward p q r + leftward p1 q1 r1 ≡ rightward p q r + rightward p1 q1 r1
    → turn p q r ≡ neg_ℤ (turn p1 q1 r1)
turn_flipped p q r p1 q1 r1 sums =
    let grid = turn_is p q r in
    let walk = turn_is p1 q1 r1 in
    omega (arith, ints)

-- three equations, each times the one and the other of two numbers, as the two sums of a turn take them
sums_scaled : (n1 n2 n3 l1 l2 l3 r1 r2 r3 : ℕ) → l1 ≡ r1 → l2 ≡ r2 → l3 ≡ r3
    → (l1 * n2 + l2 * n3 + l3 * n1 ≡ r1 * n2 + r2 * n3 + r3 * n1) × (l1 * n3 + l2 * n1 + l3 * n2 ≡ r1 * n3 + r2 * n1 + r3 * n2)
sums_scaled n1 n2 n3 l1 l2 l3 r1 r2 r3 e1 e2 e3 =
    (λ i. e1 i * n2 + e2 i * n3 + e3 i * n1, λ i. e1 i * n3 + e2 i * n1 + e3 i * n2)

-- columns of the grid for those of a walk
turn_across : (back : Bool) (start n1 n2 n3 m1 m2 m3 y1 y2 y3 : ℕ) → IsAcross back start n1 m1 → IsAcross back start n2 m2
    → IsAcross back start n3 m3
    → turn (point_at m1 y1) (point_at m2 y2) (point_at m3 y3) ≡ flip back (turn (point_at n1 y1) (point_at n2 y2) (point_at n3 y3))
turn_across false start n1 n2 n3 m1 m2 m3 y1 y2 y3 e1 e2 e3 =
    let sums = sums_scaled y1 y2 y3 _ _ _ _ _ _ e1 e2 e3 in turn_kept _ _ _ _ _ _ (omega arith)
turn_across true start n1 n2 n3 m1 m2 m3 y1 y2 y3 e1 e2 e3 =
    let sums = sums_scaled y1 y2 y3 _ _ _ _ _ _ e1 e2 e3 in turn_flipped _ _ _ _ _ _ (omega arith)

-- rows of the grid for those of a walk
turn_up : (under sheared : Bool) (start n1 n2 n3 k1 k2 k3 o1 o2 o3 : ℕ) → IsUp under sheared start n1 k1 o1
    → IsUp under sheared start n2 k2 o2
    → IsUp under sheared start n3 k3 o3
    → turn (point_at n1 o1) (point_at n2 o2) (point_at n3 o3) ≡ flip under (turn (point_at n1 k1) (point_at n2 k2) (point_at n3 k3))
turn_up false false start n1 n2 n3 k1 k2 k3 o1 o2 o3 e1 e2 e3 =
    let sums = sums_scaled n1 n2 n3 _ _ _ _ _ _ e1 e2 e3 in turn_kept _ _ _ _ _ _ (omega arith)
turn_up false true start n1 n2 n3 k1 k2 k3 o1 o2 o3 e1 e2 e3 =
    let sums = sums_scaled n1 n2 n3 _ _ _ _ _ _ e1 e2 e3 in turn_kept _ _ _ _ _ _ (omega arith)
turn_up true false start n1 n2 n3 k1 k2 k3 o1 o2 o3 e1 e2 e3 =
    let sums = sums_scaled n1 n2 n3 _ _ _ _ _ _ e1 e2 e3 in turn_flipped _ _ _ _ _ _ (omega arith)
turn_up true true start n1 n2 n3 k1 k2 k3 o1 o2 o3 e1 e2 e3 =
    let sums = sums_scaled n1 n2 n3 _ _ _ _ _ _ e1 e2 e3 in turn_flipped _ _ _ _ _ _ (omega arith)

-- ---- both coordinates
-- a point of the grid as the walk sees its coordinates
abbrev upright : Bool → GridPoint → GridPoint
upright steep p = point_at (course steep p) (cross steep p)

turn_upright : (steep : Bool) (u v w : GridPoint) → turn u v w ≡ flip steep (turn (upright steep u) (upright steep v) (upright steep w))
turn_upright false u v w = refl
turn_upright true u v w =
    let grid = turn_is u v w in
    let exchanged = turn_is (upright true u) (upright true v) (upright true w) in
    let sums : leftward u v w + leftward (upright true u) (upright true v) (upright true w)
    ≡ rightward u v w + rightward (upright true u) (upright true v) (upright true w) = omega arith in
    omega (arith, ints)

bend_flipped : (steep back under : Bool) (t z : ℤ) (v w p : GridPoint) → turn v w p ≡ t → t ≡ flip steep (flip back (flip under z))
    → bend (side_for steep back under) v w p ≡ z
bend_flipped false false false t z v w p is same = omega (arith, ints, is, same)
bend_flipped false false true t z v w p is same = omega (arith, ints, is, same)
bend_flipped false true false t z v w p is same = omega (arith, ints, is, same)
bend_flipped false true true t z v w p is same = omega (arith, ints, is, same)
bend_flipped true false false t z v w p is same = omega (arith, ints, is, same)
bend_flipped true false true t z v w p is same = omega (arith, ints, is, same)
bend_flipped true true false t z v w p is same = omega (arith, ints, is, same)
bend_flipped true true true t z v w p is same = omega (arith, ints, is, same)

flip_same : (b : Bool) (y z : ℤ) → y ≡ z → flip b y ≡ flip b z
flip_same b y z same = ap (λ (t : ℤ). flip b t) same

flip_twice : (b : Bool) (z : ℤ) → flip b (flip b z) ≡ z
flip_twice false z = refl
flip_twice true z = omega (arith, ints)

-- points of the grid bend, towards the side of the walk's rows, as their places turn
pub bend_placed : (chart : Chart) (start v w p v_at w_at p_at : GridPoint) → IsPlaced chart start v v_at → IsPlaced chart start w w_at
    → IsPlaced chart start p p_at
    → bend (side_for chart.steep chart.back chart.under) v_at w_at p_at ≡ turn v w p
bend_placed chart start v w p v_at w_at p_at v_is w_is p_is =
    bend_flipped chart.steep chart.back chart.under (turn v_at w_at p_at) (turn v w p) v_at w_at p_at refl
    (turn_upright chart.steep v_at w_at p_at ∙ flip_same chart.steep _ _ (across ∙ flip_same chart.back _ _ up))
  where
    across : turn (upright chart.steep v_at) (upright chart.steep w_at) (upright chart.steep p_at)
        ≡ flip chart.back (turn (point_at v.x (cross chart.steep v_at)) (point_at w.x (cross chart.steep w_at))
        (point_at p.x (cross chart.steep p_at)))
    across = turn_across chart.back (course chart.steep start) v.x w.x p.x _ _ _ _ _ _ v_is.across w_is.across p_is.across

    up : turn (point_at v.x (cross chart.steep v_at)) (point_at w.x (cross chart.steep w_at))
        (point_at p.x (cross chart.steep p_at)) ≡ flip chart.under (turn v w p)
    up = turn_up chart.under chart.sheared (cross chart.steep start) v.x w.x p.x v.y w.y p.y _ _ _ v_is.up w_is.up p_is.up

-- ---- how far along
-- the way of the walk
abbrev pub along_for : (steep back : Bool) → GridPoint → ℤ
along_for false false p = column p
along_for false true p = neg_ℤ (column p)
along_for true false p = row p
along_for true true p = depth p

-- a point of the grid is as far along as its place
pub along_placed : (steep back : Bool) (start p n : GridPoint) (m : ℕ) → IsAcross back (course steep start) m (course steep p)
    → along_for steep back p ≡ along_for steep back start +ℤ pos m
along_placed false false start p n m is = omega (arith, ints)
along_placed false true start p n m is = omega (arith, ints)
along_placed true false start p n m is = omega (arith, ints)
along_placed true true start p n m is = omega (arith, ints)

-- a point of the grid not behind the start has a column
pub across_of : (steep back : Bool) (start p : GridPoint) → along_for steep back start ≤ℤ along_for steep back p
    → (m : ℕ) × IsAcross back (course steep start) m (course steep p)
across_of false false start p ahead = (p.x - start.x, omega (arith, ints))
across_of false true start p ahead = (start.x - p.x, omega (arith, ints))
across_of true false start p ahead = (p.y - start.y, omega (arith, ints))
across_of true true start p ahead = (start.y - p.y, omega (arith, ints))

-- ---- how far up
-- the turn of the line from the start to a point c up in column d towards one in column n, by rows of the grid
line_turn : (d n o1 o2 o3 : ℕ) → turn (point_at 0 o1) (point_at d o2) (point_at n o3) ≡ pos (d * o3 + n * o1) -ℤ pos (o1 * d + o2 * n)
line_turn d n o1 o2 o3 = let e = turn_is (point_at 0 o1) (point_at d o2) (point_at n o3) in omega (arith, ints)

-- a point of the grid not under the line has a row
up_of : (under sheared : Bool) (start c d n end o : ℕ) → 0 < d → IsUp under sheared start d c end
    → pos 0 ≤ℤ flip under (turn (point_at 0 start) (point_at d end) (point_at n o)) → (k : ℕ) × IsUp under sheared start n k o
up_of false false start c d n end o wide at_end above =
    let turns = line_turn d n start end o in
    let scaled = ap (λ (t : ℕ). n * t) at_end in
    let beyond = factor_cancels_le start o d wide (omega (arith, ints)) in
    (o - start, omega arith)
up_of false true start c d n end o wide at_end above =
    let turns = line_turn d n start end o in
    let scaled = ap (λ (t : ℕ). n * t) at_end in
    let beyond = factor_cancels_le start (o + n) d wide (omega (arith, ints)) in
    ((o + n) - start, omega arith)
up_of true false start c d n end o wide at_end above =
    let turns = line_turn d n start end o in
    let scaled = ap (λ (t : ℕ). n * t) at_end in
    let beyond = factor_cancels_le o start d wide (omega (arith, ints)) in
    (start - o, omega arith)
up_of true true start c d n end o wide at_end above =
    let turns = line_turn d n start end o in
    let scaled = ap (λ (t : ℕ). n * t) at_end in
    let beyond = factor_cancels_le o (start + n) d wide (omega (arith, ints)) in
    ((start + n) - o, omega arith)

-- the turn of three points of the grid, by the walk's columns and the grid's rows
turn_half : (chart : Chart) (start u v w : GridPoint) (m n k : ℕ) → IsAcross chart.back (course chart.steep start) m (course chart.steep u)
    → IsAcross chart.back (course chart.steep start) n (course chart.steep v)
    → IsAcross chart.back (course chart.steep start) k (course chart.steep w)
    → bend (side_for chart.steep chart.back chart.under) u v w
    ≡ flip chart.under (turn (point_at m (cross chart.steep u)) (point_at n (cross chart.steep v)) (point_at k (cross chart.steep w)))
turn_half chart start u v w m n k u_is v_is w_is =
    let half = turn (point_at m (cross chart.steep u)) (point_at n (cross chart.steep v)) (point_at k (cross chart.steep w)) in
    bend_flipped chart.steep chart.back chart.under (turn u v w) (flip chart.under half) u v w refl
    (turn_upright chart.steep u v w ∙ flip_same chart.steep _ _
    (turn_across chart.back (course chart.steep start) m n k _ _ _ _ _ _ u_is v_is w_is
    ∙ flip_same chart.back _ _ (sym (flip_twice chart.under half))))

-- ---- one place, one point
across_one : (back : Bool) (start n l m : ℕ) → IsAcross back start n l → IsAcross back start n m → l ≡ m
across_one false start n l m first second = omega arith
across_one true start n l m first second = omega arith

up_one : (under sheared : Bool) (start n k l m : ℕ) → IsUp under sheared start n k l → IsUp under sheared start n k m → l ≡ m
up_one false false start n k l m first second = omega arith
up_one false true start n k l m first second = omega arith
up_one true false start n k l m first second = omega arith
up_one true true start n k l m first second = omega arith

-- a point has one course and one number across it
upright_one : (steep : Bool) (p q : GridPoint) → course steep p ≡ course steep q → cross steep p ≡ cross steep q → p ≡ q
upright_one false p q along beside = same_point p q along beside
upright_one true p q along beside = same_point p q beside along

-- at one place of a walk there is one point of the grid
pub placed_one : (chart : Chart) (start p q r : GridPoint) → IsPlaced chart start p q → IsPlaced chart start p r → q ≡ r
placed_one chart start p q r first second =
    upright_one chart.steep q r (across_one chart.back _ _ _ _ first.across second.across)
    (up_one chart.under chart.sheared _ _ _ _ _ first.up second.up)

-- a walk starts at its start
across_start : (back : Bool) (start : ℕ) → IsAcross back start 0 start
across_start false start = omega arith
across_start true start = omega arith

up_start : (under sheared : Bool) (start : ℕ) → IsUp under sheared start 0 0 start
up_start false false start = omega arith
up_start false true start = omega arith
up_start true false start = omega arith
up_start true true start = omega arith

pub start_placed : (chart : Chart) (start : GridPoint) → IsPlaced chart start (point_at 0 0) start
start_placed chart start =
    record {
      across = across_start chart.back (course chart.steep start);
      up = up_start chart.under chart.sheared
          (cross chart.steep start);
    }

-- ---- the points of a walk
across_placed : (back : Bool) (start last end n : ℕ) → IsAcross back start last end → n ≤ last → IsAcross back start n (passed back start n)
across_placed false start last end n at_end before = omega arith
across_placed true start last end n at_end before = omega arith

up_placed : (under sheared : Bool) (start end : ℕ) (x p : GridPoint) → IsUp under sheared start x.x x.y end → IsInReach x p
    → IsUp under sheared start p.x p.y (raised under sheared start p.x p.y)
up_placed false false start end x p at_end reach = omega arith
up_placed false true start end x p at_end reach = omega (arith, reach.to_x)
up_placed true false start end x p at_end reach = omega (arith, reach.not_above)
up_placed true true start end x p at_end reach = omega (arith, reach.from_origin)

course_at : (steep : Bool) (along beside : ℕ) → course steep (if steep then point_at beside along else point_at along beside) ≡ along
course_at false along beside = refl
course_at true along beside = refl

cross_at : (steep : Bool) (along beside : ℕ) → cross steep (if steep then point_at beside along else point_at along beside) ≡ beside
cross_at false along beside = refl
cross_at true along beside = refl

-- a place that is in reach of the place of x has its point on the grid
pub placed_is : (chart : Chart) (start x_place x p : GridPoint) → IsPlaced chart start x_place x → IsInReach x_place p
    → IsPlaced chart start p (placed chart start p)
placed_is chart start x_place x p at_x reach =
    let along = passed chart.back (course chart.steep start) p.x in
    let beside = raised chart.under chart.sheared (cross chart.steep start) p.x p.y in
    record {
      across = subst (λ (n : ℕ). IsAcross chart.back (course chart.steep start) p.x n) (sym (course_at chart.steep along beside))
          (across_placed chart.back (course chart.steep start) x_place.x (course chart.steep x) p.x at_x.across reach.before);
      up = subst (λ (n : ℕ). IsUp chart.under chart.sheared (cross chart.steep start) p.x p.y n) (sym (cross_at chart.steep along beside))
          (up_placed chart.under chart.sheared (cross chart.steep start) (cross chart.steep x) x_place p at_x.up reach);
    }

-- a point of the grid not behind the start and not under the line has a place
pub place_of : (chart : Chart) (start end q : GridPoint) (c d : ℕ) → 0 < d → IsPlaced chart start (point_at d c) end
    → along_for chart.steep chart.back start ≤ℤ along_for chart.steep chart.back q
    → pos 0 ≤ℤ bend (side_for chart.steep chart.back chart.under) start end q → (p : GridPoint) × IsPlaced chart start p q
place_of chart start end q c d wide at_end ahead beyond =
    let across = across_of chart.steep chart.back start q ahead in
    let half = turn_half chart start start end q 0 d across.0 (across_start chart.back (course chart.steep start)) at_end.across across.1 in
    let up = up_of chart.under chart.sheared (cross chart.steep start) c d across.0 (cross chart.steep end)
    (cross chart.steep q) wide at_end.up
    (subst (λ (z : ℤ). pos 0 ≤ℤ z) half beyond) in
    (point_at across.0 up.0, record { across = across.1; up = up.1 })

-- ---- places that are seen
passing_is : (back : Bool) (start n m : ℕ) → IsAcross back start n m → passing back start m ≡ n
passing_is false start n m is = omega arith
passing_is true start n m is = omega arith

rising_is : (under sheared : Bool) (start n k o : ℕ) → IsUp under sheared start n k o → rising under sheared start n o ≡ k
rising_is false false start n k o is = omega arith
rising_is false true start n k o is = omega arith
rising_is true false start n k o is = omega arith
rising_is true true start n k o is = omega arith

-- the place of a point is the one that is seen
pub seen_is : (chart : Chart) (start p q : GridPoint) → IsPlaced chart start p q → seen chart start q ≡ p
seen_is chart start p q is =
    let across = passing_is chart.back (course chart.steep start) p.x (course chart.steep q) is.across in
    let up = rising_is chart.under chart.sheared (cross chart.steep start) p.x p.y (cross chart.steep q) is.up in
    same_point (seen chart start q) p across (ap (λ (n : ℕ). rising chart.under chart.sheared (cross chart.steep start) n
    (cross chart.steep q)) across ∙ up)
