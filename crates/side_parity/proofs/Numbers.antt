-- Side numbers of places as differences of two sums.
use Rattle.std.proofs.Common.{◌≡◌, ℕ, zero, suc, ◌+◌, ◌*◌, ◌<◌, ◌≤◌, ltb, ℤ, pos, negsuc, ◌-ℤ◌, ◌*ℤ◌, sym, arith, inl, inr}
use Rattle.std.proofs.lemmas.Int.{ints}
use Rattle.std.proofs.lemmas.Bool.{lt-ltb, le-ltb}
use Rattle.grid_base.specs.Point.{GridPoint, IsFromTo}
use Rattle.grid_base.specs.Segment.{GridSegment}
use Rattle.grid_base.specs.Sides.{Left, Right, side_of}
use Rattle.grid_base.specs.Places.{RationalPoint, IsPlace}
use Rattle.grid_base.proofs.Turns.{difference-*, times, times_le}
use Rattle.grid_base.specs.Odd.{is_right}
use Rattle.grid_base.specs.Plane.{as_place, side_at, side_number_at}
use Rattle.grid_base.proofs.Turns.{in_order}

-- ---- a place beside a segment
abbrev pub leftward : GridSegment → RationalPoint → ℕ
leftward s q = s.a.x * s.b.y * q.w + s.b.x * q.y + q.x * s.a.y

abbrev pub rightward : GridSegment → RationalPoint → ℕ
rightward s q = s.a.y * s.b.x * q.w + s.b.y * q.x + q.y * s.a.x

pub number_is : (s : GridSegment) (q : RationalPoint)
    → side_number_at s (as_place q) ≡ pos (leftward s q) -ℤ pos (rightward s q)
unfolding side_number_at
number_is s q = rw (difference-* s.b.x s.a.x q.y (s.a.y * q.w), difference-* s.b.y s.a.y q.x (s.a.x * q.w)) (omega (arith, ints))

right_test : (z : ℤ) (l r : ℕ) → z ≡ pos l -ℤ pos r → is_right (side_of z) ≡ ltb l r
right_test (pos zero) l r e = sym (le-ltb l r (omega (arith, ints)))
right_test (pos (suc n)) l r e = sym (le-ltb l r (omega (arith, ints)))
right_test (negsuc n) l r e = sym (lt-ltb l r (omega (arith, ints)))

-- a place is on the right of s where the rightward sum is greater
pub right_is : (s : GridSegment) (q : RationalPoint)
    → is_right (side_at s (as_place q)) ≡ ltb (leftward s q) (rightward s q)
right_is s q = right_test (side_number_at s (as_place q)) _ _ (number_is s q)

-- ---- a grid point beside the straight way from q to p
abbrev pub leftward_of_way : RationalPoint → RationalPoint → GridPoint → ℕ
leftward_of_way q p v = q.x * p.y + p.x * q.w * v.y + v.x * q.y * p.w

abbrev pub rightward_of_way : RationalPoint → RationalPoint → GridPoint → ℕ
rightward_of_way q p v = q.y * p.x + p.y * q.w * v.x + v.y * q.x * p.w

-- ---- a place of s has equal sums, and in its columns it needs no more
even_of : (y z : ℤ) (l r : ℕ) → y -ℤ z ≡ pos l -ℤ pos r → y ≡ z → l ≡ r
even_of y z l r e h = omega (arith, ints)

equal_of : (y z : ℤ) (l r : ℕ) → y -ℤ z ≡ pos l -ℤ pos r → l ≡ r → y ≡ z
equal_of y z l r e h = omega (arith, ints)

pub place_balanced : (s : GridSegment) (q : RationalPoint) → IsPlace s q → leftward s q ≡ rightward s q
unfolding side_number_at
place_balanced s q h = even_of _ _ _ _ (number_is s q) h.line

pub line_by : (s : GridSegment) (q : RationalPoint) → leftward s q ≡ rightward s q
    → (pos s.b.x -ℤ pos s.a.x) *ℤ (pos q.y -ℤ pos (s.a.y * q.w)) ≡ (pos s.b.y -ℤ pos s.a.y) *ℤ (pos q.x -ℤ pos (s.a.x * q.w))
unfolding side_number_at
line_by s q h = equal_of _ _ _ _ (number_is s q) h

-- the rows follow from the columns
rows_by : (s : GridSegment) (q : RationalPoint) → s.a.x < s.b.x → leftward s q ≡ rightward s q
    → s.a.x * q.w ≤ q.x → q.x ≤ s.b.x * q.w → IsFromTo (s.a.y * q.w) (s.b.y * q.w) q.y
rows_by s q h e l r = elim (in_order s.a.y s.b.y) [
  | inl k ↦
      (let p1 = times_le s.a.y s.b.y (s.a.x * q.w) q.x k l in
      let p2 = times_le s.a.y s.b.y q.x (s.b.x * q.w) k r in
      let low : q.y < s.a.y * q.w → ⊥ = λ f. (let p3 = times s.a.x s.b.x q.y (s.a.y * q.w) h f in omega arith) in
      let high : s.b.y * q.w < q.y → ⊥ = λ f. (let p3 = times s.a.x s.b.x (s.b.y * q.w) q.y h f in omega arith) in
      (omega (arith, low), omega (arith, high)))
  | inr k ↦
      (let p1 = times_le s.b.y s.a.y (s.a.x * q.w) q.x k l in
      let p2 = times_le s.b.y s.a.y q.x (s.b.x * q.w) k r in
      let low : q.y < s.b.y * q.w → ⊥ = λ f. (let p3 = times s.a.x s.b.x q.y (s.b.y * q.w) h f in omega arith) in
      let high : s.a.y * q.w < q.y → ⊥ = λ f. (let p3 = times s.a.x s.b.x (s.a.y * q.w) q.y h f in omega arith) in
      (omega (arith, low), omega (arith, high)))
]

pub place_by : (s : GridSegment) (q : RationalPoint) → 0 < q.w → s.a.x < s.b.x → leftward s q ≡ rightward s q
    → s.a.x * q.w ≤ q.x → q.x ≤ s.b.x * q.w → IsPlace s q
place_by s q w h e l r = record { real = w; line = line_by s q e; across = (omega arith, omega arith); up = rows_by s q h e l r }

-- ---- sides as orders of sums
left_order : (z : ℤ) (l r : ℕ) → z ≡ pos l -ℤ pos r → side_of z ≡ Left → r < l
left_order (pos zero) l r h e = cc
left_order (pos (suc n)) l r h e = omega (arith, ints)
left_order (negsuc n) l r h e = cc

right_order : (z : ℤ) (l r : ℕ) → z ≡ pos l -ℤ pos r → side_of z ≡ Right → l < r
right_order (pos zero) l r h e = cc
right_order (pos (suc n)) l r h e = cc
right_order (negsuc n) l r h e = omega (arith, ints)

pub left_sum : (s : GridSegment) (q : RationalPoint) → side_at s (as_place q) ≡ Left → rightward s q < leftward s q
left_sum s q e = left_order (side_number_at s (as_place q)) _ _ (number_is s q) e

pub right_sum : (s : GridSegment) (q : RationalPoint) → side_at s (as_place q) ≡ Right → leftward s q < rightward s q
right_sum s q e = right_order (side_number_at s (as_place q)) _ _ (number_is s q) e

-- ---- columns
pub wider : (a b w x : ℕ) → a * w ≤ x → x < b * w → a < b
wider a b w x l r =
    let no : b ≤ a → ⊥ = λ k. (let p1 = times_le b a 0 w k (omega arith) in omega arith) in
    omega (arith, no)
