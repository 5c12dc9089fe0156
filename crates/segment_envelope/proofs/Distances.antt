-- That a side number is the greater run of the segment times the distance from the segment's place, up or down in the column
-- of the point where the segment is flat, and across in its row where it is steep.
use Rattle.std.proofs.Common.{◌≡◌, ℕ, ◌+◌, ◌*◌, ◌<◌, ◌≤◌, min, max, ap, sym, arith, inl, inr}
use Rattle.std.proofs.Math.Nat.{lt_of_mul-lt-mul_right}
use Rattle.std.specs.Prelude.{◌↔◌}
use Rattle.grid_base.specs.Point.{GridPoint, IsBefore, IsFromTo, InBox, gap}
use Rattle.grid_base.specs.Segment.{GridSegment, width, height}
use Rattle.grid_base.specs.Crossing.{IsOn}
use Rattle.grid_base.specs.Places.{RationalPoint, IsPlace}
use Rattle.grid_base.proofs.Turns.{leftward, rightward, times, times_le, in_order, on_is, on_by}
use Rattle.grid_base.proofs.Balances.{gap_cancels, factor_cancels, factor_cancels_le, from_to_cancels}
use Rattle.grid_base.proofs.Lines.{line_is}
use Rattle.grid_base.proofs.Columns.{sides_of_place}
use Rattle.segment_envelope.specs.Near.{Near}
use Rattle.segment_envelope.proofs.Sizes.{size_is}
use Rattle.segment_envelope.proofs.Ranges.{scaled_between}

-- ---- a side number that is a product of two gaps
-- what left has more than right, times w, is the product of the gaps from a to b and from n to m
record IsProduct (left right a b m n w : ℕ) : Type 0 where
  real : 0 < w
  wide : a < b
  same : left * w + (b * n + a * m) ≡ right * w + (b * m + a * n)

-- where m is w or more above n, left is as far above right as b above a, or further
product_far : (left right a b m n w : ℕ) → IsProduct left right a b m n w → n + w ≤ m → right + b ≤ left + a
product_far left right a b m n w product far =
    let gaps = times_le a b (n + w) m (omega (arith, product.wide)) far in
    factor_cancels_le (right + b) (left + a) w product.real (omega (arith, product.same))

-- and where it is less above, left is less far above
product_close : (left right a b m n w : ℕ) → IsProduct left right a b m n w → m < n + w → left + a < right + b
product_close left right a b m n w product close =
    let gaps = times a b m (n + w) product.wide close in
    lt_of_mul-lt-mul_right w {m = left + a} {n = right + b} (omega (arith, product.same))

-- so one gap is below b - a where the other is below w
product_gaps : (left right a b m n w : ℕ) → IsProduct left right a b m n w → (gap left right + a < b) ↔ (gap m n < w)
product_gaps left right a b m n w product = (to, from)
  where
    turned : IsProduct right left a b n m w
    turned = record { real = product.real; wide = product.wide; same = sym product.same }

    to : gap left right + a < b → gap m n < w
    to close =
        let not_above : n + w ≤ m → ⊥ = λ far. let apart = product_far left right a b m n w product far in omega arith in
        let not_below : m + w ≤ n → ⊥ = λ far. let apart = product_far right left a b n m w turned far in omega arith in
        omega (arith, not_above, not_below)

    from : gap m n < w → gap left right + a < b
    from close =
        let above = product_close left right a b m n w product (omega arith) in
        let below = product_close right left a b n m w turned (omega arith) in
        omega arith

-- and one is 0 where the other is
product_zero : (left right a b m n w : ℕ) → IsProduct left right a b m n w → (left ≡ right) ↔ (m ≡ n)
product_zero left right a b m n w product = (
  λ same. let at = ap (λ (k : ℕ). k * w) same in gap_cancels m n a b (omega (arith, product.wide)) (omega (arith, product.same)),
  λ same.
      let at_a = ap (λ (k : ℕ). a * k) same in
      let at_b = ap (λ (k : ℕ). b * k) same in
      factor_cancels left right w product.real (omega (arith, product.same)),
)

-- ---- a point and a place
-- what side numbers and the box say of p: it is as far from the line of s, along its column or row, as m / w from n / w
pub record IsSeen (s : GridSegment) (p : GridPoint) (m n w : ℕ) : Type 0 where
  pub real : 0 < w
  pub near : (gap (leftward s.a s.b p) (rightward s.a s.b p) < max (width s) (height s)) ↔ (gap m n < w)
  pub line : (leftward s.a s.b p ≡ rightward s.a s.b p) ↔ (m ≡ n)
  pub box : gap m n < w → InBox s.a s.b p

-- so p is near s where the two are less than 1 apart
pub seen_near : (s : GridSegment) (p : GridPoint) (m n w : ℕ) → IsSeen s p m n w → Near s p ↔ (gap m n < w)
seen_near s p m n w seen = (
  λ near. seen.near.0 (omega (arith, size_is s p, near.near)),
  λ close. record { box = seen.box close; near = let below = seen.near.1 close in omega (arith, size_is s p) },
)

-- and on s where they are equal
pub seen_on : (s : GridSegment) (p : GridPoint) (m n w : ℕ) → IsSeen s p m n w → IsOn s p ↔ (m ≡ n)
seen_on s p m n w seen = (
  λ on. seen.line.0 (on_is s.a s.b p on.line),
  λ same. record { line = on_by s.a s.b p (seen.line.1 same); box = seen.box (omega (arith, seen.real)) },
)

-- the side number of p is such a product, b - a being the greater run: of how far p is above the place
seen_left : (s : GridSegment) (p : GridPoint) (a b m n w : ℕ) → IsProduct (leftward s.a s.b p) (rightward s.a s.b p) a b m n w
    → max (width s) (height s) + a ≡ b → (gap m n < w → InBox s.a s.b p) → IsSeen s p m n w
seen_left s p a b m n w product runs box =
    let gaps = product_gaps _ _ _ _ _ _ _ product in
    record {
      real = product.real;
      near = (λ below. gaps.0 (omega arith), λ close. let below = gaps.1 close in omega arith);
      line = product_zero _ _ _ _ _ _ _ product;
      box = box;
    }

-- or of how far it is below
seen_right : (s : GridSegment) (p : GridPoint) (a b m n w : ℕ) → IsProduct (rightward s.a s.b p) (leftward s.a s.b p) a b m n w
    → max (width s) (height s) + a ≡ b → (gap m n < w → InBox s.a s.b p) → IsSeen s p m n w
seen_right s p a b m n w product runs box =
    let gaps = product_gaps _ _ _ _ _ _ _ product in
    let line = product_zero _ _ _ _ _ _ _ product in
    record {
      real = product.real;
      near = (λ below. gaps.0 (omega arith), λ close. let below = gaps.1 close in omega arith);
      line = (λ same. line.0 (sym same), λ same. sym (line.1 same));
      box = box;
    }

-- ---- in a column of a flat segment, and in a row of a steep one
-- a whole number less than 1 from a place between two whole numbers is between them
close_between : (a b n w m : ℕ) → 0 < w → IsFromTo (a * w) (b * w) n → gap (m * w) n < w → IsFromTo a b m
close_between a b n w m real between close =
    let scaled = scaled_between a b w n between in
    let from = lt_of_mul-lt-mul_right w {m = min a b} {n = m + 1} (omega arith) in
    let to = lt_of_mul-lt-mul_right w {m = m} {n = max a b + 1} (omega arith) in
    omega arith

-- a whole number that is a place between two whole numbers is between them
same_between : (a b n w m : ℕ) → 0 < w → IsFromTo (a * w) (b * w) n → n ≡ m * w → IsFromTo a b m
same_between a b n w m real between same = from_to_cancels a b m w real (rw same at between)

-- a point in the column of a place of a flat segment
pub flat_seen : (s : GridSegment) (p : GridPoint) (q : RationalPoint) → IsBefore s.a s.b → height s ≤ width s → IsPlace s q
    → q.x ≡ p.x * q.w → IsSeen s p (p.y * q.w) q.y q.w
flat_seen s p q ordered flat place column = seen_left s p s.a.x s.b.x _ _ _ product (omega arith) box
  where
    product : IsProduct (leftward s.a s.b p) (rightward s.a s.b p) s.a.x s.b.x (p.y * q.w) q.y q.w
    product = record { real = place.real; wide = omega arith; same = sides_of_place s p q place column }

    box : gap (p.y * q.w) q.y < q.w → InBox s.a s.b p
    box close = (
      same_between s.a.x s.b.x q.x q.w p.x place.real place.across column,
      close_between s.a.y s.b.y q.y q.w p.y place.real place.up close,
    )

-- the side number times w is the height times how far the point is beside the place of its row
row_sides : (s : GridSegment) (p : GridPoint) (q : RationalPoint) → IsPlace s q → q.y ≡ p.y * q.w
    → rightward s.a s.b p * q.w + (s.b.y * q.x + s.a.y * (p.x * q.w)) ≡ leftward s.a s.b p * q.w + (s.b.y * (p.x * q.w) + s.a.y * q.x)
row_sides s p q place row =
    let line = line_is s q place in
    let at_b = ap (λ (n : ℕ). s.b.x * n) row in
    let at_a = ap (λ (n : ℕ). s.a.x * n) row in
    omega arith

-- a point beyond the place of its row is on the right of a segment that rises, and on the left of one that falls
pub steep_seen : (s : GridSegment) (p : GridPoint) (q : RationalPoint) → width s < height s → IsPlace s q
    → q.y ≡ p.y * q.w → IsSeen s p (p.x * q.w) q.x q.w
steep_seen s p q steep place row = elim (in_order s.a.y s.b.y) [
  | inl up ↦ seen_right s p s.a.y s.b.y _ _ _ (rising up) (omega arith) box
  | inr down ↦ seen_left s p s.b.y s.a.y _ _ _ (falling down) (omega arith) box
]
  where
    rising : s.a.y ≤ s.b.y → IsProduct (rightward s.a s.b p) (leftward s.a s.b p) s.a.y s.b.y (p.x * q.w) q.x q.w
    rising up = record { real = place.real; wide = omega arith; same = row_sides s p q place row }

    falling : s.b.y ≤ s.a.y → IsProduct (leftward s.a s.b p) (rightward s.a s.b p) s.b.y s.a.y (p.x * q.w) q.x q.w
    falling down = record { real = place.real; wide = omega arith; same = omega (arith, row_sides s p q place row) }

    box : gap (p.x * q.w) q.x < q.w → InBox s.a s.b p
    box close = (
      close_between s.a.x s.b.x q.x q.w p.x place.real place.across close,
      same_between s.a.y s.b.y q.y q.w p.y place.real place.up row,
    )
