-- This file shows how places of a segment, and of the column of a point, lie to another segment.
use Rattle.std.proofs.Common.{◌≡◌, ℕ, zero, suc, ◌+◌, ◌*◌, ◌<◌, ℤ, pos, negsuc, ◌<ℤ◌, ◌≤ℤ◌, refl, sym, ap}
use Rattle.std.proofs.Common.{◌∙◌, arith}
use Rattle.std.proofs.lemmas.Int.{ints}
use borrow.Author.Differences.{up, down}
use Rattle.grid_base.specs.Point.{GridPoint}
use Rattle.grid_base.specs.Segment.{GridSegment}
use Rattle.grid_base.specs.Sides.{Side, Left, On, Right, side_of}
use Rattle.grid_base.proofs.Turns.{times, times_le}
use Rattle.grid_base.specs.Plane.{Place, side_number_at, side_at, Spans, Holds, HoldsInside, blend}
use Rattle.plane_classes.proofs.Heights.{height_is, at_a}
use Rattle.plane_classes.proofs.Blends.{weighed, height_blend, spans_blend}
use Rattle.plane_classes.proofs.Ways.{zero_by}
use Rattle.plane_cells.proofs.OneSide.{Off, one_side_by_way}
pub use Rattle.plane_cells.specs.Order.{AtMost, IsLower, at_point}
use Rattle.plane_cells.proofs.Vertical.{held_at}

pub left_of_lower : (d e : Side) → AtMost d e → d ≡ Left → e ≡ Left
left_of_lower Left Left h k = refl
left_of_lower Left On h k = absurd h
left_of_lower Left Right h k = absurd h
left_of_lower On e h k = cc
left_of_lower Right e h k = cc

pub right_of_upper : (d e : Side) → AtMost d e → e ≡ Right → d ≡ Right
right_of_upper Right e h k = refl
right_of_upper On Right h k = absurd h
right_of_upper On On h k = cc
right_of_upper On Left h k = cc
right_of_upper Left Right h k = absurd h
right_of_upper Left On h k = cc
right_of_upper Left Left h k = cc

-- by the heights: the second is not on or below while the first is on or above, but for two that are on
pub at_most : (x y : ℤ) → (pos 0 ≤ℤ x → y ≤ℤ pos 0 → y <ℤ x → ⊥) → AtMost (side_of x) (side_of y)
at_most (negsuc n) y h = tt
at_most (pos zero) (negsuc m) h = h (omega (arith, ints)) (omega (arith, ints)) (omega (arith, ints))
at_most (pos zero) (pos zero) h = tt
at_most (pos zero) (pos (suc m)) h = tt
at_most (pos (suc n)) (negsuc m) h = h (omega (arith, ints)) (omega (arith, ints)) (omega (arith, ints))
at_most (pos (suc n)) (pos zero) h = h (omega (arith, ints)) (omega (arith, ints)) (omega (arith, ints))
at_most (pos (suc n)) (pos (suc m)) h = tt

-- ---- along a segment from its lesser end
-- s has no place inside t
abbrev pub IsOffInside : GridSegment → GridSegment → Type 0
IsOffInside s t = (c : Place) → HoldsInside t c → Holds s c → ⊥

pub spans_begin : (t : GridSegment) → t.a.x < t.b.x → Spans t (at_point t.a)
spans_begin t o = record { from = omega (arith, ints); to = omega (arith, ints, o) }

pub zero_begin : (t : GridSegment) → side_number_at t (at_point t.a) ≡ pos 0
zero_begin t = at_a t (at_point t.a) (omega (arith, ints)) (omega (arith, ints))

zero_blend : (t : GridSegment) (i j : ℕ) (p q : Place) → side_number_at t p ≡ pos 0 → side_number_at t q ≡ pos 0
    → side_number_at t (blend i j p q) ≡ pos 0
zero_blend t i j p q h k = height_blend t i j p q ∙ rw (h, k) (omega (arith, ints))

past_begin : (a i j w : ℕ) (x : ℤ) → 0 < j → pos (a * w) <ℤ x → pos (a * (i * 1 + j * w)) <ℤ weighed i j (pos a) x
past_begin a i j w x h k = let t = times (a * w + down x) (up x) 0 j (omega (arith, ints, k)) h in omega (arith, ints)

before_end : (a b i j w : ℕ) (x : ℤ) → 0 < i → a < b → x ≤ℤ pos (b * w) → weighed i j (pos a) x <ℤ pos (b * (i * 1 + j * w))
before_end a b i j w x h o k =
    let t = times_le (up x) (b * w + down x) 0 j (omega (arith, ints, k)) (omega arith) in
    let u = times a b 0 i o h in omega (arith, ints)

not_same : (x y : ℤ) → x <ℤ y → y ≡ x → ⊥
not_same x y h e = omega (arith, ints)

not_same' : (x y : ℤ) → y <ℤ x → y ≡ x → ⊥
not_same' x y h e = omega (arith, ints)

inside_way : (t : GridSegment) (i j : ℕ) (f : Place) → t.a.x < t.b.x → 0 < i → 0 < j → Spans t f → side_number_at t f ≡ pos 0
    → pos (t.a.x * f.w) <ℤ f.x → HoldsInside t (blend i j (at_point t.a) f)
inside_way t i j f o hi hj h z k = record {
  held = held_at t (blend i j (at_point t.a) f) (omega (arith, hi)) o (spans_blend t i j (at_point t.a) f (spans_begin t o) h)
      (zero_blend t i j (at_point t.a) f (zero_begin t) z);
  not_a = λ e. not_same _ _ (past_begin t.a.x i j f.w f.x hj k) e.0;
  not_b = λ e. not_same' _ _ (before_end t.a.x t.b.x i j f.w f.x hi o h.to) e.0;
}

only_last : (j : ℕ) (x y : ℤ) → 0 < j → weighed 0 j x y ≡ pos 0 → y ≡ pos 0
only_last j x (pos zero) h e = refl
only_last j x (pos (suc n)) h e = let t = times 0 j 0 (suc n) h (omega arith) in absurd (omega (arith, ints, e))
only_last j x (negsuc n) h e = let t = times 0 j 0 (suc n) h (omega arith) in absurd (omega (arith, ints, e))

only_first : (i : ℕ) (x y : ℤ) → 0 < i → weighed i 0 x y ≡ pos 0 → x ≡ pos 0
only_first i (pos zero) y h e = refl
only_first i (pos (suc n)) y h e = let t = times 0 i 0 (suc n) h (omega arith) in absurd (omega (arith, ints, e))
only_first i (negsuc n) y h e = let t = times 0 i 0 (suc n) h (omega arith) in absurd (omega (arith, ints, e))

off_way : (s t : GridSegment) (f : Place) → t.a.x < t.b.x → IsOffInside s t → Spans t f → side_number_at t f ≡ pos 0
    → pos (t.a.x * f.w) <ℤ f.x
    → (side_number_at s (at_point t.a) ≡ pos 0 → ⊥) → (side_number_at s f ≡ pos 0 → ⊥) → Off s (at_point t.a) f
off_way s t f o apart h z k first last zero zero n held = absurd (omega (arith, n))
off_way s t f o apart h z k first last zero (suc j) n held = last
    (only_last (suc j) (side_number_at s (at_point t.a)) (side_number_at s f) (omega arith)
    (sym (height_blend s 0 (suc j) (at_point t.a) f) ∙ zero_by _ held.line))
off_way s t f o apart h z k first last (suc i) zero n held = first
    (only_first (suc i) (side_number_at s (at_point t.a)) (side_number_at s f) (omega arith)
    (sym (height_blend s (suc i) 0 (at_point t.a) f) ∙ zero_by _ held.line))
off_way s t f o apart h z k first last (suc i) (suc j) n held = apart (blend (suc i) (suc j) (at_point t.a) f)
    (inside_way t (suc i) (suc j) f o (omega arith) (omega arith) h z k) held

-- s has the lesser end of t and a place of t behind it on one side
pub one_side_along : (s t : GridSegment) (f : Place) → 0 < f.w → s.a.x < s.b.x → t.a.x < t.b.x → IsOffInside s t → Spans s (at_point t.a)
    → Spans s f → Spans t f → side_number_at t f ≡ pos 0 → pos (t.a.x * f.w) <ℤ f.x
    → (side_number_at s (at_point t.a) ≡ pos 0 → ⊥) → (side_number_at s f ≡ pos 0 → ⊥) → side_at s (at_point t.a) ≡ side_at s f
one_side_along s t f real so o apart g h l z k first last = one_side_by_way s (at_point t.a) f (omega arith) real so
    (off_way s t f o apart l z k first last) g h

-- ---- in the column of a point
pub over_point : (s : GridSegment) (v : GridPoint) (q : Place) → s.a.x < s.b.x → 0 < q.w → q.x ≡ pos (v.x * q.w) → pos (v.y * q.w) ≤ℤ q.y
    → pos 0 <ℤ side_number_at s (at_point v) → pos 0 <ℤ side_number_at s q
over_point s v q o hw c l h =
    let e : s.b.x * s.a.y + s.a.x * v.y + (s.b.y * v.x + s.a.y * s.a.x) < s.b.x * v.y + s.a.x * s.a.y + (s.b.y * s.a.x + s.a.y * v.x) =
    omega (arith, ints, h, height_is s (at_point v)) in
    let u = times (s.b.x * s.a.y + s.a.x * v.y + (s.b.y * v.x + s.a.y * s.a.x))
    (s.b.x * v.y + s.a.x * s.a.y + (s.b.y * s.a.x + s.a.y * v.x)) 0 q.w e hw in
    let t = times_le s.a.x s.b.x (v.y * q.w + down q.y) (up q.y) (omega arith) (omega (arith, ints, l)) in
    let m = ap up c in let n = ap down c in
    let f = ap (λ (t : ℕ). s.b.y * t) m in let g = ap (λ (t : ℕ). s.a.y * t) m in
    let f' = ap (λ (t : ℕ). s.b.y * t) n in let g' = ap (λ (t : ℕ). s.a.y * t) n in
    omega (arith, ints, height_is s q)

pub under_point : (s : GridSegment) (v : GridPoint) (q : Place) → s.a.x < s.b.x → 0 < q.w → q.x ≡ pos (v.x * q.w) → q.y ≤ℤ pos (v.y * q.w)
    → side_number_at s (at_point v) <ℤ pos 0 → side_number_at s q <ℤ pos 0
under_point s v q o hw c l h =
    let e : s.b.x * v.y + s.a.x * s.a.y + (s.b.y * s.a.x + s.a.y * v.x) < s.b.x * s.a.y + s.a.x * v.y + (s.b.y * v.x + s.a.y * s.a.x) =
    omega (arith, ints, h, height_is s (at_point v)) in
    let u = times (s.b.x * v.y + s.a.x * s.a.y + (s.b.y * s.a.x + s.a.y * v.x))
    (s.b.x * s.a.y + s.a.x * v.y + (s.b.y * v.x + s.a.y * s.a.x)) 0 q.w e hw in
    let t = times_le s.a.x s.b.x (up q.y) (v.y * q.w + down q.y) (omega arith) (omega (arith, ints, l)) in
    let m = ap up c in let n = ap down c in
    let f = ap (λ (t : ℕ). s.b.y * t) m in let g = ap (λ (t : ℕ). s.a.y * t) m in
    let f' = ap (λ (t : ℕ). s.b.y * t) n in let g' = ap (λ (t : ℕ). s.a.y * t) n in
    omega (arith, ints, height_is s q)
