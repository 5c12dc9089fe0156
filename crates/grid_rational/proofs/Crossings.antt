-- That the crossing of two segments is one, a place of both and their only common place.
use Rattle.std.proofs.Common.{◌≡◌, ℕ, ◌*◌, ap, sym, subst, ◌∙◌, arith}
use Rattle.grid_base.specs.Segment.{GridSegment}
use Rattle.grid_base.specs.Crossing.{Cross}
use Rattle.grid_base.specs.Places.{RationalPoint, IsSamePoint}
use Rattle.grid_base.specs.MeetPoint.{IsCommon, crossing_of}
use Rattle.grid_base.proofs.Lines.{line_is}
use Rattle.grid_base.proofs.Crossings.{crossing_is_common}
use Rattle.grid_rational.proofs.Distances.{IsLeftBy, IsRightBy, ArePartedBy, Leftwards, Rightwards, parted_by}

-- ---- the distances of four ends
-- t leads from the left of s to its right, and s from the right of t to its left
pub record IsCrossedBy (s t : GridSegment) : Type 0 where
  pub a_left : IsLeftBy s t.a
  pub b_right : IsRightBy s t.b
  pub a_right : IsRightBy t s.a
  pub b_left : IsLeftBy t s.b

-- of two segments that cross, one leads from the left of the other to its right
pub data Crosses (s t : GridSegment) : Type 0 where
  First : IsCrossedBy s t → Crosses s t
  Second : IsCrossedBy t s → Crosses s t

-- the two segments don't both lead from left to right
not_both_rightwards : (s t : GridSegment) → IsLeftBy s t.a → IsRightBy s t.b → IsLeftBy t s.a → IsRightBy t s.b → ⊥
not_both_rightwards s t a_left b_right c_left d_right = omega arith

-- nor from right to left
not_both_leftwards : (s t : GridSegment) → IsRightBy s t.a → IsLeftBy s t.b → IsRightBy t s.a → IsLeftBy t s.b → ⊥
not_both_leftwards s t a_right b_left c_right d_left = omega arith

-- the sides of the four ends tell which of the two leads from left to right
crosses_by : (s t : GridSegment) → ArePartedBy s t.a t.b → ArePartedBy t s.a s.b → Crosses s t
crosses_by s t (Leftwards a b) (Leftwards c d) = absurd (not_both_rightwards s t a b c d)
crosses_by s t (Leftwards a b) (Rightwards c d) = First (record { a_left = a; b_right = b; a_right = c; b_left = d })
crosses_by s t (Rightwards a b) (Leftwards c d) = Second (record { a_left = c; b_right = d; a_right = a; b_left = b })
crosses_by s t (Rightwards a b) (Rightwards c d) = absurd (not_both_leftwards s t a b c d)

-- segments that cross do so in one of the two ways
pub crosses_is : (s t : GridSegment) → Cross s t → Crosses s t
crosses_is s t cross = crosses_by s t (parted_by s t.a t.b cross.first) (parted_by t s.a s.b cross.second)

-- ---- the same crossing from both segments
-- the rational point with these numbers
abbrev place_at : ℕ → ℕ → ℕ → RationalPoint
place_at x y w = record { x = x; y = y; w = w }

-- two rational points with the same numbers are one
same_numbers : (q r : RationalPoint) → q.x ≡ r.x → q.y ≡ r.y → q.w ≡ r.w → q ≡ r
same_numbers q r x y w =
    ap (λ (n : ℕ). place_at n q.y q.w) x ∙ ap (λ (n : ℕ). place_at r.x n q.w) y ∙ ap (λ (n : ℕ). place_at r.x r.y n) w

-- the column has the same numerator from both
same_column : (s t : GridSegment) → IsCrossedBy s t → (crossing_of t s).x ≡ (crossing_of s t).x
same_column s t crossed =
    let at_t_a = ap (λ (n : ℕ). n * t.b.x) crossed.a_left.sums in
    let at_t_b = ap (λ (n : ℕ). n * t.a.x) crossed.b_right.sums in
    let at_s_a = ap (λ (n : ℕ). n * s.b.x) crossed.a_right.sums in
    let at_s_b = ap (λ (n : ℕ). n * s.a.x) crossed.b_left.sums in
    omega arith

-- and so has the row
same_row : (s t : GridSegment) → IsCrossedBy s t → (crossing_of t s).y ≡ (crossing_of s t).y
same_row s t crossed =
    let at_t_a = ap (λ (n : ℕ). n * t.b.y) crossed.a_left.sums in
    let at_t_b = ap (λ (n : ℕ). n * t.a.y) crossed.b_right.sums in
    let at_s_a = ap (λ (n : ℕ). n * s.b.y) crossed.a_right.sums in
    let at_s_b = ap (λ (n : ℕ). n * s.a.y) crossed.b_left.sums in
    omega arith

-- and both have the same denominator
same_parts : (s t : GridSegment) → IsCrossedBy s t → (crossing_of t s).w ≡ (crossing_of s t).w
same_parts s t crossed =
    omega (arith, crossed.a_left.sums, crossed.b_right.sums, crossed.a_right.sums, crossed.b_left.sums)

-- the crossing is the same from both, where t leads from left to right
same_crossing : (s t : GridSegment) → IsCrossedBy s t → crossing_of t s ≡ crossing_of s t
same_crossing s t crossed =
    same_numbers _ _ (same_column s t crossed) (same_row s t crossed) (same_parts s t crossed)

-- the crossing is the same from both segments
pub crossing-swap : (s t : GridSegment) → Cross s t → crossing_of t s ≡ crossing_of s t
crossing-swap s t cross = elim (crosses_is s t cross) [
  | First crossed ↦ same_crossing s t crossed
  | Second crossed ↦ sym (same_crossing t s crossed)
]

-- ---- the only common place
-- the crossing is a place of both
pub crossing_is_place : (s t : GridSegment) → Cross s t → IsCommon s t (crossing_of s t)
crossing_is_place s t cross = let both = crossing_is_common s t cross in record { first = both.0; second = both.1 }

-- a common place is in the column of the crossing
only_column : (s t : GridSegment) (q : RationalPoint) → IsCrossedBy s t → IsCommon s t q
    → q.x * (crossing_of s t).w ≡ (crossing_of s t).x * q.w
only_column s t q crossed common =
    let at_t_a = ap (λ (n : ℕ). n * t.b.x * q.w) crossed.a_left.sums in
    let at_t_b = ap (λ (n : ℕ). n * t.a.x * q.w) crossed.b_right.sums in
    let along_a = ap (λ (n : ℕ). n * q.x) crossed.a_left.sums in
    let along_b = ap (λ (n : ℕ). n * q.x) crossed.b_right.sums in
    let on_s_a = ap (λ (n : ℕ). n * t.a.x) (line_is s q common.first) in
    let on_s_b = ap (λ (n : ℕ). n * t.b.x) (line_is s q common.first) in
    let on_t_a = ap (λ (n : ℕ). n * s.a.x) (line_is t q common.second) in
    let on_t_b = ap (λ (n : ℕ). n * s.b.x) (line_is t q common.second) in
    omega arith

-- and in its row
only_row : (s t : GridSegment) (q : RationalPoint) → IsCrossedBy s t → IsCommon s t q
    → q.y * (crossing_of s t).w ≡ (crossing_of s t).y * q.w
only_row s t q crossed common =
    let at_t_a = ap (λ (n : ℕ). n * t.b.y * q.w) crossed.a_left.sums in
    let at_t_b = ap (λ (n : ℕ). n * t.a.y * q.w) crossed.b_right.sums in
    let along_a = ap (λ (n : ℕ). n * q.y) crossed.a_left.sums in
    let along_b = ap (λ (n : ℕ). n * q.y) crossed.b_right.sums in
    let on_s_a = ap (λ (n : ℕ). n * t.a.y) (line_is s q common.first) in
    let on_s_b = ap (λ (n : ℕ). n * t.b.y) (line_is s q common.first) in
    let on_t_a = ap (λ (n : ℕ). n * s.a.y) (line_is t q common.second) in
    let on_t_b = ap (λ (n : ℕ). n * s.b.y) (line_is t q common.second) in
    omega arith

-- a common place is the crossing, where t leads from left to right
only_place : (s t : GridSegment) (q : RationalPoint) → IsCrossedBy s t → IsCommon s t q → IsSamePoint q (crossing_of s t)
only_place s t q crossed common = (only_column s t q crossed common, only_row s t q crossed common)

-- any common place of two segments that cross is their crossing
pub crossing_is_only : (s t : GridSegment) (q : RationalPoint) → Cross s t → IsCommon s t q → IsSamePoint q (crossing_of s t)
crossing_is_only s t q cross common = elim (crosses_is s t cross) [
  | First crossed ↦ only_place s t q crossed common
  | Second crossed ↦
      let swapped : IsCommon t s q = record { first = common.second; second = common.first } in
      subst (λ (r : RationalPoint). IsSamePoint q r) (crossing-swap s t cross) (only_place t s q crossed swapped)
]
