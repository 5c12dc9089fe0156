-- This file shows that two corners of a box tell whether it lies off the line of a segment.
use Rattle.std.proofs.Common.{◌≡◌, ◌⊎◌, ℕ, ◌+◌, ◌≤◌, Bool, true, false, cond, nat_le, min, max, IsTrue, ap, refl, subst, arith, inl, inr}
use Rattle.std.proofs.lemmas.Bool.{and_parts, or_cases, or_left, or_right, leb-true, leb-false}
use Rattle.grid_base.specs.Point.{GridPoint, point_at, IsBefore, IsFromTo, InBox}
use Rattle.grid_base.specs.Segment.{GridSegment}
use Rattle.grid_base.specs.Sides.{Side, Left, On, Right, side}
use Rattle.grid_base.proofs.Turns.{leftward, rightward, times_le, left_is, left_by, right_is, right_by}
use Rattle.realm_index.specs.Aside.{IsAside, is_left, is_right, rightmost, leftmost, is_aside}
use Rattle.realm_index.specs.Bounds.{Bounds, bounds_of, bounds_at}
use Rattle.realm_index.specs.Cluster.{covers}

-- ---- points farther to the left of a line
-- q is at least as far to the left of the line of s as p
abbrev IsLefter : GridSegment → GridPoint → GridPoint → Type 0
IsLefter s p q = leftward s.a s.b p + rightward s.a s.b q ≤ leftward s.a s.b q + rightward s.a s.b p

-- what is up and back, where s rises
lefter_rising : (s : GridSegment) (p q : GridPoint) → s.a.x ≤ s.b.x → s.a.y ≤ s.b.y → q.x ≤ p.x → p.y ≤ q.y → IsLefter s p q
lefter_rising s p q wide rises back up =
    let first = times_le s.a.x s.b.x p.y q.y wide up in
    let second = times_le s.a.y s.b.y q.x p.x rises back in
    omega (arith, first, second)

-- what is up and forward, where s falls
lefter_falling : (s : GridSegment) (p q : GridPoint) → s.a.x ≤ s.b.x → s.b.y ≤ s.a.y → p.x ≤ q.x → p.y ≤ q.y → IsLefter s p q
lefter_falling s p q wide falls forward up =
    let first = times_le s.a.x s.b.x p.y q.y wide up in
    let second = times_le s.b.y s.a.y p.x q.x falls forward in
    omega (arith, first, second)

-- what is farther to the left than a point on the left is there too
left_by_lefter : (s : GridSegment) (p q : GridPoint) → IsLefter s p q → side s.a s.b p ≡ Left → side s.a s.b q ≡ Left
left_by_lefter s p q lefter left =
    let above = left_is s.a s.b p left in
    left_by s.a s.b q (omega (arith, lefter, above))

-- and where it is on the right, so is the point
right_by_lefter : (s : GridSegment) (p q : GridPoint) → IsLefter s p q → side s.a s.b q ≡ Right → side s.a s.b p ≡ Right
right_by_lefter s p q lefter right =
    let below = right_is s.a s.b q right in
    right_by s.a s.b p (omega (arith, lefter, below))

-- ---- boxes in boxes
-- the box c reaches as far as b on each side
pub record Reaches (c b : Bounds) : Type 0 where
  pub left : c.left ≤ b.left
  pub right : b.right ≤ c.right
  pub low : c.low ≤ b.low
  pub high : b.high ≤ c.high

pub reaches : (c b : Bounds) → IsTrue (covers c b) → Reaches c b
reaches c b h =
    let h1 = and_parts _ _ h in
    let h2 = and_parts _ _ h1.1 in
    let h3 = and_parts _ _ h2.1 in
    record { left = leb-true _ _ h1.0; right = leb-true _ _ h2.0; low = leb-true _ _ h3.0; high = leb-true _ _ h3.1 }

-- the box of t reaches as far as each point in it
reaches_point : (t : GridSegment) (p : GridPoint) → InBox t.a t.b p → Reaches (bounds_of t) (bounds_at p)
reaches_point t p inside = record { left = inside.0.0; right = inside.0.1; low = inside.1.0; high = inside.1.1 }

-- ---- the corners of a box and of one in it
-- the lesser end of a segment is in no later column
wide_by : (p q : GridPoint) → IsBefore p q → p.x ≤ q.x
wide_by p q before = omega arith

-- by whether s rises
right_corners_by : (t : Bool) (s : GridSegment) (c b : Bounds) → nat_le s.a.y s.b.y ≡ t → s.a.x ≤ s.b.x → Reaches c b
    → IsLefter s (point_at (cond t c.right c.left) c.low) (point_at (cond t b.right b.left) b.low)
right_corners_by true s c b rises wide r =
    lefter_rising s (point_at c.right c.low) (point_at b.right b.low) wide (leb-true _ _ rises) r.right r.low
right_corners_by false s c b falls wide r =
    let less = leb-false s.a.y s.b.y falls in
    lefter_falling s (point_at c.left c.low) (point_at b.left b.low) wide (omega (arith, less)) r.left r.low

left_corners_by : (t : Bool) (s : GridSegment) (c b : Bounds) → nat_le s.a.y s.b.y ≡ t → s.a.x ≤ s.b.x → Reaches c b
    → IsLefter s (point_at (cond t b.left b.right) b.high) (point_at (cond t c.left c.right) c.high)
left_corners_by true s c b rises wide r =
    lefter_rising s (point_at b.left b.high) (point_at c.left c.high) wide (leb-true _ _ rises) r.left r.high
left_corners_by false s c b falls wide r =
    let less = leb-false s.a.y s.b.y falls in
    lefter_falling s (point_at b.right b.high) (point_at c.right c.high) wide (omega (arith, less)) r.right r.high

-- the rightmost corner of c is no farther to the left than that of b
right_corners : (s : GridSegment) (c b : Bounds) → IsBefore s.a s.b → Reaches c b → IsLefter s (rightmost s c) (rightmost s b)
right_corners s c b before r = right_corners_by (nat_le s.a.y s.b.y) s c b refl (wide_by s.a s.b before) r

-- and the leftmost is no farther to the right
left_corners : (s : GridSegment) (c b : Bounds) → IsBefore s.a s.b → Reaches c b → IsLefter s (leftmost s b) (leftmost s c)
left_corners s c b before r = left_corners_by (nat_le s.a.y s.b.y) s c b refl (wide_by s.a s.b before) r

-- where the rightmost corner of c is on the left, so is that of b
left_within : (s : GridSegment) (c b : Bounds) → IsBefore s.a s.b → Reaches c b
    → side s.a s.b (rightmost s c) ≡ Left → side s.a s.b (rightmost s b) ≡ Left
left_within s c b before r left = left_by_lefter s (rightmost s c) (rightmost s b) (right_corners s c b before r) left

-- and where the leftmost is on the right, so is that of b
right_within : (s : GridSegment) (c b : Bounds) → IsBefore s.a s.b → Reaches c b
    → side s.a s.b (leftmost s c) ≡ Right → side s.a s.b (leftmost s b) ≡ Right
right_within s c b before r right = right_by_lefter s (leftmost s b) (leftmost s c) (left_corners s c b before r) right

-- ---- what the tests say
is_left_says : (d : Side) → is_left d ≡ true → d ≡ Left
is_left_says Left h = refl
is_left_says On h = cc
is_left_says Right h = cc

is_right_says : (d : Side) → is_right d ≡ true → d ≡ Right
is_right_says Left h = cc
is_right_says On h = cc
is_right_says Right h = refl

-- the box lies off the line by its rightmost corner or by its leftmost
aside_cases : (s : GridSegment) (b : Bounds) → IsTrue (is_aside s b)
    → (side s.a s.b (rightmost s b) ≡ Left) ⊎ (side s.a s.b (leftmost s b) ≡ Right)
aside_cases s b h = elim (or_cases _ _ h) [
  | inl left ↦ inl (is_left_says _ left)
  | inr right ↦ inr (is_right_says _ right)
]

aside_by_left : (s : GridSegment) (b : Bounds) → side s.a s.b (rightmost s b) ≡ Left → IsTrue (is_aside s b)
aside_by_left s b left = or_left (is_left (side s.a s.b (rightmost s b))) (is_right (side s.a s.b (leftmost s b)))
    (ap {B = Bool} is_left left)

aside_by_right : (s : GridSegment) (b : Bounds) → side s.a s.b (leftmost s b) ≡ Right → IsTrue (is_aside s b)
aside_by_right s b right = or_right (is_left (side s.a s.b (rightmost s b))) (is_right (side s.a s.b (leftmost s b)))
    (ap {B = Bool} is_right right)

-- with a box that lies off the line, each that it covers does
pub aside_below : (s : GridSegment) (c b : Bounds) → IsBefore s.a s.b → IsTrue (covers c b) → IsTrue (is_aside s c) → IsTrue (is_aside s b)
aside_below s c b before h aside =
    let r = reaches c b h in
    elim (aside_cases s c aside) [
      | inl left ↦ aside_by_left s b (left_within s c b before r left)
      | inr right ↦ aside_by_right s b (right_within s c b before r right)
    ]

-- ---- boxes of segments
-- both corners of the box of a point are that point
point_both_ways : (t : Bool) (p : GridPoint) → point_at (cond t p.x p.x) p.y ≡ p
point_both_ways true p = refl
point_both_ways false p = refl

-- where the tests say so, all points of the box are on one side
pub aside_says : (s t : GridSegment) → IsBefore s.a s.b → IsTrue (is_aside s (bounds_of t)) → IsAside s t
aside_says s t before aside = elim (aside_cases s (bounds_of t) aside) [
  | inl left ↦ inl (λ p inside. subst (λ (q : GridPoint). side s.a s.b q ≡ Left) (point_both_ways (nat_le s.a.y s.b.y) p)
      (left_within s (bounds_of t) (bounds_at p) before (reaches_point t p inside) left))
  | inr right ↦ inr (λ p inside. subst (λ (q : GridPoint). side s.a s.b q ≡ Right) (point_both_ways (nat_le s.a.y s.b.y) p)
      (right_within s (bounds_of t) (bounds_at p) before (reaches_point t p inside) right))
]

-- the least of two numbers and the greatest, in either order, are from one to the other
least_from_to : (m n : ℕ) → IsFromTo m n (min m n)
least_from_to m n = omega arith

greatest_from_to : (m n : ℕ) → IsFromTo m n (max m n)
greatest_from_to m n = omega arith

either_from_to : (t : Bool) (m n i j : ℕ) → IsFromTo m n i → IsFromTo m n j → IsFromTo m n (cond t i j)
either_from_to true m n i j one other = one
either_from_to false m n i j one other = other

-- both corners are in the box
rightmost_inside : (s t : GridSegment) → InBox t.a t.b (rightmost s (bounds_of t))
rightmost_inside s t = (
  either_from_to (nat_le s.a.y s.b.y) t.a.x t.b.x _ _ (greatest_from_to t.a.x t.b.x) (least_from_to t.a.x t.b.x),
  least_from_to t.a.y t.b.y,
)

leftmost_inside : (s t : GridSegment) → InBox t.a t.b (leftmost s (bounds_of t))
leftmost_inside s t = (
  either_from_to (nat_le s.a.y s.b.y) t.a.x t.b.x _ _ (least_from_to t.a.x t.b.x) (greatest_from_to t.a.x t.b.x),
  greatest_from_to t.a.y t.b.y,
)

-- where all points of the box are on one side, the tests say so
pub aside_from : (s t : GridSegment) → IsAside s t → IsTrue (is_aside s (bounds_of t))
aside_from s t (inl left) = aside_by_left s (bounds_of t) (left (rightmost s (bounds_of t)) (rightmost_inside s t))
aside_from s t (inr right) = aside_by_right s (bounds_of t) (right (leftmost s (bounds_of t)) (leftmost_inside s t))
