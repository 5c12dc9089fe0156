-- This file shows when a segment is below another in all their common columns.
use Rattle.std.proofs.Common.{◌≡◌, ◌⊎◌, ℕ, zero, suc, ◌+◌, ◌-◌, ◌*◌, ◌<◌, ◌≤◌, ℤ, pos, negsuc, ◌-ℤ◌, ◌+ℤ◌, ◌<ℤ◌, ◌≤ℤ◌, refl, sym, ap, subst}
use Rattle.std.proofs.Common.{◌∙◌, arith, inl, inr}
use Rattle.std.proofs.lemmas.Int.{ints}
use borrow.Author.Differences.{up, down}
use Rattle.grid_base.specs.Point.{GridPoint}
use Rattle.grid_base.specs.Segment.{GridSegment}
use Rattle.grid_base.specs.Sides.{Left, Right, side_of}
use Rattle.grid_base.proofs.Turns.{times, times_le}
use Rattle.grid_base.proofs.Signs.{order, left_by_sign, right_by_sign, above_not_zero, below_not_zero, not_both}
use Rattle.grid_base.specs.Plane.{Place, side_number_at, Spans, blend}
use Rattle.plane_classes.proofs.Heights.{height_is, under_a, over_a}
use Rattle.plane_classes.proofs.Blends.{weighed, height_blend}
use Rattle.plane_classes.proofs.OverTests.{Less, Same, More, three}
pub use Rattle.plane_cells.specs.Order.{AtMost, IsLower, at_point}
use Rattle.plane_cells.proofs.Vertical.{zenith, nadir, foot_below, foot_above, lowered_column, raised_column}
use Rattle.plane_cells.proofs.Vertical.{column_spans, column_after, column_real, height_zenith, height_nadir}
use Rattle.plane_cells.proofs.AlongSegments.{at_most, IsOffInside, one_side_along, over_point, under_point}

-- ---- s is below t where it is below the lesser end of t
drop_sum : (d u e : ℕ) (h z : ℤ) → 0 < d → 0 < e → h ≤ℤ pos 0 → h <ℤ pos u → z ≡ pos 0 -ℤ pos e → weighed d u h z <ℤ pos 0
drop_sum d u zero h z hd he k l f = absurd (omega (arith, he))
drop_sum d zero (suc e) (pos n) z hd he k l f = absurd (omega (arith, ints, k, l))
drop_sum d (suc u) (suc e) (pos zero) z hd he k l f = let t = times 0 (suc u) 0 (suc e) (omega arith) he in let g : z ≡ negsuc e = omega
    (arith, ints, f) in rw g (omega (arith, ints))
drop_sum d (suc u) (suc e) (pos (suc n)) z hd he k l f = absurd (omega (arith, ints, k))
drop_sum d u (suc e) (negsuc n) z hd he k l f = let t = times 0 d 0 (suc n) hd (omega arith) in let g : z ≡ negsuc e = omega
    (arith, ints, f) in rw g (omega (arith, ints))

lift_sum : (d u e : ℕ) (h z : ℤ) → 0 < d → 0 < e → pos 0 ≤ℤ h → pos 0 <ℤ (h +ℤ pos u) → z ≡ pos e → pos 0 <ℤ weighed d u h z
lift_sum d zero e (pos n) z hd he k l f = let t = times 0 d 0 n hd (omega (arith, ints, l)) in rw f (omega (arith, ints))
lift_sum d (suc u) e (pos n) z hd he k l f = let t = times 0 (suc u) 0 e (omega arith) he in rw f (omega (arith, ints, k))
lift_sum d u e (negsuc n) z hd he k l f = absurd (omega (arith, ints, k))

up_of : (z : ℤ) → pos 0 ≤ℤ z → pos (up z) ≡ z
up_of (pos n) h = refl
up_of (negsuc n) h = absurd (omega (arith, ints, h))

down_of : (y z : ℤ) → z ≤ℤ pos 0 → z <ℤ y → pos 0 <ℤ (y +ℤ pos (down z))
down_of y (pos n) h k = omega (arith, ints, h, k)
down_of y (negsuc n) h k = omega (arith, ints, h, k)

sides_differ : (x y : ℤ) → pos 0 <ℤ x → y <ℤ pos 0 → side_of x ≡ side_of y → ⊥
sides_differ x y h k e = not_two (sym (left_by_sign x h) ∙ e ∙ right_by_sign y k)
  where
    not_two : Left ≡ Right → ⊥
    not_two e = cc

wide : (s : GridSegment) → s.a.x < s.b.x → 0 < s.b.x - s.a.x
wide s o = omega (arith, o)

fall : (s : GridSegment) → s.a.x < s.b.x → side_number_at s nadir ≡ pos 0 -ℤ pos (s.b.x - s.a.x)
fall s o = height_nadir s ∙ omega (arith, ints, o)

rise : (s : GridSegment) → s.a.x < s.b.x → side_number_at s zenith ≡ pos (s.b.x - s.a.x)
rise s o = height_zenith s ∙ omega (arith, ints, o)

pub lower_by_left : (s t : GridSegment) → s.a.x < s.b.x → t.a.x < t.b.x → IsOffInside s t → Spans s (at_point t.a)
    → pos 0 <ℤ side_number_at s (at_point t.a) → IsLower s t
lower_by_left s t so o apart g m q hw hs ht = at_most (side_number_at t q) (side_number_at s q)
    (λ up_t down_s less. elim (three q.x (pos (t.a.x * q.w))) [
      | Less k ↦ not_both q.x _ k ht.from
      | Same k ↦ elim (order (pos (t.a.y * q.w)) q.y) [
        | inl l ↦ not_both _ _ (over_point s t.a q so hw k l m) down_s
        | inr l ↦ not_both _ _ (under_a t q o k l) up_t
      ]
      | More k ↦
          let f : Place = blend (t.b.x - t.a.x) (up (side_number_at t q)) q nadir in
          let c = lowered_column (t.b.x - t.a.x) (up (side_number_at t q)) q (wide t o) in
          let z = foot_below t q o up_t in
          let low : side_number_at s f <ℤ pos 0 = subst (λ (n : ℤ). n <ℤ pos 0)
          (sym (height_blend s (t.b.x - t.a.x) (up (side_number_at t q)) q nadir))
          (drop_sum (t.b.x - t.a.x) (up (side_number_at t q)) (s.b.x - s.a.x) (side_number_at s q) (side_number_at s nadir) (wide t o)
          (wide s so) down_s
          (subst (λ (n : ℤ). side_number_at s q <ℤ n) (sym (up_of (side_number_at t q) up_t)) less) (fall s so)) in
          sides_differ _ _ m low
          (one_side_along s t f (column_real q f c hw) so o apart g (column_spans s q f c hs) (column_spans t q f c ht) z
          (column_after t.a.x q f c k) (above_not_zero _ m) (below_not_zero _ low))
    ])

pub lower_by_right : (s t : GridSegment) → s.a.x < s.b.x → t.a.x < t.b.x → IsOffInside s t → Spans s (at_point t.a)
    → side_number_at s (at_point t.a) <ℤ pos 0 → IsLower t s
lower_by_right s t so o apart g m q hw ht hs = at_most (side_number_at s q) (side_number_at t q)
    (λ up_s down_t less. elim (three q.x (pos (t.a.x * q.w))) [
      | Less k ↦ not_both q.x _ k ht.from
      | Same k ↦ elim (order q.y (pos (t.a.y * q.w))) [
        | inl l ↦ not_both _ _ (under_point s t.a q so hw k l m) up_s
        | inr l ↦ not_both _ _ (over_a t q o k l) down_t
      ]
      | More k ↦ elim (order (pos 0) (side_number_at t q)) [
        | inl flat ↦ let z = flat_zero _ flat down_t in
            sides_differ' _ _ m (subst (λ (n : ℤ). n <ℤ side_number_at s q) z less)
            (one_side_along s t q hw so o apart g hs ht z k (below_not_zero _ m)
            (above_not_zero _ (subst (λ (n : ℤ). n <ℤ side_number_at s q) z less)))
        | inr under ↦
            let f : Place = blend (t.b.x - t.a.x) (down (side_number_at t q)) q zenith in
            let c = raised_column (t.b.x - t.a.x) (down (side_number_at t q)) q (wide t o) in
            let z = foot_above t q o under in
            let high : pos 0 <ℤ side_number_at s f = subst (λ (n : ℤ). pos 0 <ℤ n)
            (sym (height_blend s (t.b.x - t.a.x) (down (side_number_at t q)) q zenith))
            (lift_sum (t.b.x - t.a.x) (down (side_number_at t q)) (s.b.x - s.a.x) (side_number_at s q) (side_number_at s zenith) (wide t o)
            (wide s so) up_s
            (down_of (side_number_at s q) (side_number_at t q) down_t less) (rise s so)) in
            sides_differ' _ _ m high
            (one_side_along s t f (column_real q f c hw) so o apart g (column_spans s q f c hs) (column_spans t q f c ht) z
            (column_after t.a.x q f c k) (below_not_zero _ m) (above_not_zero _ high))
      ]
    ])
  where
    flat_zero : (z : ℤ) → pos 0 ≤ℤ z → z ≤ℤ pos 0 → z ≡ pos 0
    flat_zero z h k = omega (arith, ints)

    sides_differ' : (x y : ℤ) → x <ℤ pos 0 → pos 0 <ℤ y → side_of x ≡ side_of y → ⊥
    sides_differ' x y h k e = sides_differ y x k h (sym e)

-- ---- two that begin at one point, by their angles
angle : (ax ay p q r u xu xw yu z : ℕ) → ax < p → ax < r → xw ≤ xu
    → p * yu + ax * z + (q * xw + ay * xu) ≤ p * z + ax * yu + (q * xu + ay * xw)
    → r * z + ax * yu + (u * xu + ay * xw) ≤ r * yu + ax * z + (u * xw + ay * xu)
    → (p * yu + ax * z + (q * xw + ay * xu)) + (r * z + ax * yu + (u * xu + ay * xw)) < (p * z + ax * yu + (q * xu + ay * xw))
    + (r * yu + ax * z + (u * xw + ay * xu))
    → p * ay + ax * u + (q * r + ay * ax) < p * u + ax * ay + (q * ax + ay * r) → ⊥
angle ax ay p q r u xu xw yu z hp hr hx hs ht less cross =
    let c = times_le (p * ay + ax * u + (q * r + ay * ax)) (p * u + ax * ay + (q * ax + ay * r)) xw xu (omega arith) hx in
    let a = times_le (p * yu + ax * z + (q * xw + ay * xu)) (p * z + ax * yu + (q * xu + ay * xw)) ax r hs (omega arith) in
    let b = times_le (r * z + ax * yu + (u * xu + ay * xw)) (r * yu + ax * z + (u * xw + ay * xu)) ax p ht (omega arith) in
    elim (strict (p * yu + ax * z + (q * xw + ay * xu)) (p * z + ax * yu + (q * xu + ay * xw)) (r * z + ax * yu + (u * xu + ay * xw))
    (r * yu + ax * z + (u * xw + ay * xu)) less) [
      | inl k ↦ let a' = times (p * yu + ax * z + (q * xw + ay * xu)) (p * z + ax * yu + (q * xu + ay * xw)) ax r k hr in omega arith
      | inr k ↦ let b' = times (r * z + ax * yu + (u * xu + ay * xw)) (r * yu + ax * z + (u * xw + ay * xu)) ax p k hp in omega arith
    ]
  where
    strict : (a b c d : ℕ) → a + c < b + d → (a < b) ⊎ (c < d)
    strict a b c d h = grind arith

abbrev fan : GridPoint → GridPoint → GridSegment
fan v b = record { a = v; b = b }

lower_in_fan : (v b c : GridPoint) → v.x < b.x → v.x < c.x → pos 0 <ℤ side_number_at (fan v b) (at_point c) → IsLower (fan v b) (fan v c)
lower_in_fan v b c so o m q hw hs ht = at_most (side_number_at (fan v c) q) (side_number_at (fan v b) q) (λ up_t down_s less.
    let e = height_is (fan v b) q in
    let f = height_is (fan v c) q in
    let g = height_is (fan v b) (at_point c) in
    angle v.x v.y b.x b.y c.x c.y (up q.x) (down q.x + v.x * q.w) (up q.y) (down q.y + v.y * q.w) so o
    (omega (arith, ints, hs.from)) (omega (arith, ints)) (omega (arith, ints)) (omega (arith, ints)) (omega (arith, ints)))

-- of two that begin at one point, the one with the end of the other on its left is below
pub lower_by_angle : (s t : GridSegment) (v : GridPoint) → s.a ≡ v → t.a ≡ v → s.a.x < s.b.x → t.a.x < t.b.x
    → pos 0 <ℤ side_number_at s (at_point t.b) → IsLower s t
lower_by_angle s t v e f so o m =
    let g : fan v s.b ≡ s = ap (λ (u : GridPoint). fan u s.b) (sym e) in
    let h : fan v t.b ≡ t = ap (λ (u : GridPoint). fan u t.b) (sym f) in
    subst (λ (u : GridSegment). IsLower u t) g (subst (λ (u : GridSegment). IsLower (fan v s.b) u) h
    (lower_in_fan v s.b t.b (subst (λ (u : GridPoint). u.x < s.b.x) e so) (subst (λ (u : GridPoint). u.x < t.b.x) f o)
    (subst (λ (u : GridSegment). pos 0 <ℤ side_number_at u (at_point t.b)) (sym g) m)))
