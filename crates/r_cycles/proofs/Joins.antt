-- This file shows how often ways, trails and cycles join two points, one way as the other, and as a trail goes on.
use Rattle.std.proofs.Common.{◌≡◌, ◌≢◌, ℕ, zero, suc, ◌+◌, ◌<◌, Bool, true, false, ◌&&◌, ◌||◌, cond, refl, sym, ap, ap₂, ◌∙◌, subst, arith}
use Rattle.std.proofs.Common.{List, [], ◌∷◌, ◌++◌, Contains, count_by, append_assoc}
use Rattle.std.proofs.lemmas.List.Sums.{sum_by-append}
use Rattle.grid_base.specs.Point.{GridPoint, is_point}
use Rattle.grid_base.specs.Segment.{GridSegment}
use Rattle.grid_base.proofs.Orders.{is_point-same, is_point-itself}
use Rattle.grid_base.proofs.Booleans.{both_true}
use Rattle.r_cycles.specs.Cycles.{Link, link, links, round, joins, times_joined, times_used}
use Rattle.r_cycles.specs.Left.{way_of, leads, begins, one_if, times_in, BeginsAt, EndsAt}
use Rattle.r_cycles.specs.declared.ways.Way.{Way}
use Rattle.r_cycles.proofs.Counts.{count_by-cons, count_by-some, count_by-found, count_by-agree, sum_by-agree}

-- ---- points
pub other_point : (p q : GridPoint) → p ≢ q → is_point p q ≡ false
other_point p q other = by (is_point p q) refl
  where
    by : (b : Bool) → is_point p q ≡ b → is_point p q ≡ false
    by true e = absurd (other (is_point-same p q e))
    by false e = e

-- ---- ways
-- the way from p to q leads from p to q, and no other
pub leads_itself : (p q : GridPoint) → leads p q (way_of p q) ≡ true
leads_itself p q = ap₂ (λ b c. b && c) (is_point-itself p) (is_point-itself q)

pub leads_exact : (p q : GridPoint) (way : Way) → leads p q way ≡ true → way ≡ way_of p q
leads_exact p q way h =
    let both = both_true (is_point way.from p) (is_point way.to q) h in
    ap₂ way_of (is_point-same way.from p both.0) (is_point-same way.to q both.1)

-- a way is there where it is counted
pub there_from_count : (ways : List Way) (p q : GridPoint) → 0 < count_by (leads p q) ways → Contains ways (way_of p q)
there_from_count ways p q some =
    let found = count_by-found (leads p q) ways some in
    subst (Contains ways) (leads_exact p q found.0 found.2) found.1

pub count_from_there : (ways : List Way) (p q : GridPoint) → Contains ways (way_of p q) → 0 < count_by (leads p q) ways
count_from_there ways p q there = count_by-some (leads p q) ways (way_of p q) there (leads_itself p q)

pub none_from_absent : (ways : List Way) (p q : GridPoint) → (Contains ways (way_of p q) → ⊥) → count_by (leads p q) ways ≡ 0
none_from_absent ways p q absent = by (count_by (leads p q) ways) refl
  where
    by : (n : ℕ) → count_by (leads p q) ways ≡ n → count_by (leads p q) ways ≡ 0
    by zero e = e
    by (suc n) e = absurd (absent (there_from_count ways p q (omega (arith, e))))

-- ---- one way as the other
or_swap : (b c : Bool) → (b || c) ≡ (c || b)
or_swap true true = refl
or_swap true false = refl
or_swap false true = refl
or_swap false false = refl

joins-swap : (p q : GridPoint) (l : Link) → joins p q l ≡ joins q p l
joins-swap p q l = or_swap (is_point l.from p && is_point l.to q) (is_point l.from q && is_point l.to p)

pub times_joined-swap : (p q : GridPoint) (way : List GridPoint) → times_joined p q way ≡ times_joined q p way
times_joined-swap p q way = count_by-agree (joins p q) (joins q p) (joins-swap p q) (links way)

pub times_used-swap : (p q : GridPoint) (cycles : List (List GridPoint)) → times_used p q cycles ≡ times_used q p cycles
times_used-swap p q cycles =
    sum_by-agree (λ c. times_joined p q (round c)) (λ c. times_joined q p (round c)) (λ c. times_joined-swap p q (round c)) cycles

pub times_in-swap : (p q : GridPoint) (border : List GridSegment) → times_in p q border ≡ times_in q p border
times_in-swap p q border =
    count_by-agree (λ s. joins p q (link s.a s.b)) (λ s. joins q p (link s.a s.b)) (λ s. joins-swap p q (link s.a s.b)) border

sum_of_or : (a b c d : Bool) → (a ≡ true → d ≡ true → ⊥) → one_if ((a && b) || (c && d)) ≡ one_if (a && b) + one_if (d && c)
sum_of_or true b c true not_both = absurd (not_both refl refl)
sum_of_or true true true false not_both = refl
sum_of_or true true false false not_both = refl
sum_of_or true false true false not_both = refl
sum_of_or true false false false not_both = refl
sum_of_or false b true true not_both = refl
sum_of_or false b true false not_both = refl
sum_of_or false b false true not_both = refl
sum_of_or false b false false not_both = refl

-- a link joins two points where the way along it leads from one to the other, or the way back does
pub joins_by_ways : (p q v w : GridPoint) → v ≢ w
    → one_if (joins p q (link v w)) ≡ one_if (leads p q (way_of v w)) + one_if (leads p q (way_of w v))
joins_by_ways p q v w apart = sum_of_or (is_point v p) (is_point w q) (is_point v q) (is_point w p)
    (λ first second. apart (is_point-same v p first ∙ sym (is_point-same w p second)))

-- ---- trails
-- the links before a vertex and those behind it
links-split : (front : List GridPoint) (z : GridPoint) (back : List GridPoint)
    → links (front ++ z ∷ back) ≡ links (front ++ z ∷ []) ++ links (z ∷ back)
links-split [] z back = refl
links-split (v ∷ []) z back = refl
links-split (v ∷ w ∷ front) z back = ap (λ ls. link v w ∷ ls) (links-split (w ∷ front) z back)

pub count_by-links_split : (f : Link → Bool) (front : List GridPoint) (z : GridPoint) (back : List GridPoint)
    → count_by f (links (front ++ z ∷ back)) ≡ count_by f (links (front ++ z ∷ [])) + count_by f (links (z ∷ back))
count_by-links_split f front z back =
    ap (count_by f) (links-split front z back)
    ∙ sum_by-append (λ l. cond (f l) 1 0) (links (front ++ z ∷ [])) (links (z ∷ back))

pub times_joined-split : (p q : GridPoint) (front : List GridPoint) (z : GridPoint) (back : List GridPoint)
    → times_joined p q (front ++ z ∷ back) ≡ times_joined p q (front ++ z ∷ []) + times_joined p q (z ∷ back)
times_joined-split p q front z back = count_by-links_split (joins p q) front z back

-- one link more at the end
pub times_joined-push : (p q here next : GridPoint) (trail : List GridPoint) → EndsAt here trail
    → times_joined p q (trail ++ next ∷ []) ≡ times_joined p q trail + one_if (joins p q (link here next))
times_joined-push p q here next trail (front, is) =
    let whole = ap (λ t. t ++ next ∷ []) is ∙ append_assoc front (here ∷ []) (next ∷ []) in
    let split = ap (times_joined p q) whole ∙ times_joined-split p q front here (next ∷ []) in
    let before = ap (times_joined p q) is in
    omega (arith, split, before, count_by-cons (joins p q) (link here next) [])

-- the last vertex of what stands behind a vertex
pub ends-later : (v w u : GridPoint) (trail : List GridPoint) → EndsAt v (w ∷ u ∷ trail) → EndsAt v (u ∷ trail)
ends-later v w u trail ([], is) = cc
ends-later v w u trail (z ∷ front, is) = (front, cc)

pub ends-one : (v w : GridPoint) → EndsAt v (w ∷ []) → w ≡ v
ends-one v w ([], is) = cc
ends-one v w (z ∷ [], is) = cc
ends-one v w (z ∷ y ∷ front, is) = cc

pub ends-append : (v : GridPoint) (front : List GridPoint) (z : GridPoint) (back : List GridPoint)
    → EndsAt v (front ++ z ∷ back) → EndsAt v (z ∷ back)
ends-append v [] z back ends = ends
ends-append v (w ∷ []) z back ends = ends-later v w z back ends
ends-append v (w ∷ u ∷ front) z back ends = ends-append v (u ∷ front) z back (ends-later v w u (front ++ z ∷ back) ends)

pub begins-append : (v : GridPoint) (front : List GridPoint) (z : GridPoint) (back more : List GridPoint)
    → BeginsAt v (front ++ z ∷ back) → BeginsAt v (front ++ z ∷ more)
begins-append v [] z back more begins = begins
begins-append v (w ∷ front) z back more begins = begins

pub begins-push : (v : GridPoint) (trail : List GridPoint) (w : GridPoint) → BeginsAt v trail → BeginsAt v (trail ++ w ∷ [])
begins-push v [] w begins = absurd begins
begins-push v (u ∷ trail) w begins = begins

-- ---- the way back
-- the way from p to q isn't the way back
not_way_back : (p q : GridPoint) → p ≢ q → one_if (leads q p (way_of p q)) ≡ 0
not_way_back p q apart = ap (λ b. one_if (b && is_point q p)) (other_point p q apart)

-- it is still absent when the other was put
pub absent_after : (ways more : List Way) (p q : GridPoint) → p ≢ q
    → ((f : Way → Bool) → count_by f more ≡ count_by f ways + one_if (f (way_of p q)))
    → (Contains ways (way_of q p) → ⊥) → Contains more (way_of q p) → ⊥
absent_after ways more p q apart puts absent there = omega (
  arith,
  count_from_there more q p there,
  puts (leads q p),
  not_way_back p q apart,
  none_from_absent ways q p absent,
)

-- and still there when the other was taken
pub there_after : (ways fewer : List Way) (p q : GridPoint) → p ≢ q
    → ((f : Way → Bool) → count_by f fewer + one_if (f (way_of p q)) ≡ count_by f ways)
    → Contains ways (way_of q p) → Contains fewer (way_of q p)
there_after ways fewer p q apart takes there = there_from_count fewer q p
    (omega (arith, count_from_there ways q p there, takes (leads q p), not_way_back p q apart))
