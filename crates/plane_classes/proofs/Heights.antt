-- This file shows how a place lies to a segment, in whole numbers.
use Rattle.std.proofs.Common.{◌≡◌, ℕ, ◌+◌, ◌*◌, ◌<◌, true, false, ℤ, pos, ◌-ℤ◌, ◌*ℤ◌, ◌<ℤ◌, ◌≤ℤ◌, ap, subst, arith, inl, inr}
use Rattle.std.specs.Prelude.{int_le, int_lt}
use Rattle.std.proofs.lemmas.Int.{ints}
use borrow.Author.Differences.{up, down}
use Rattle.grid_base.specs.Segment.{GridSegment}
use Rattle.grid_base.proofs.Turns.{times, times_le, difference-*}
use Rattle.grid_base.proofs.Signs.{order}
use Rattle.grid_base.specs.Plane.{Place, side_number_at}

pub le_yes : (a b : ℤ) → a ≤ℤ b → int_le a b ≡ true
le_yes a b h = grind (arith, ints)

pub le_no : (a b : ℤ) → b <ℤ a → int_le a b ≡ false
le_no a b h = grind (arith, ints)

pub lt_yes : (a b : ℤ) → a <ℤ b → int_lt a b ≡ true
lt_yes a b h = grind (arith, ints)

pub lt_no : (a b : ℤ) → b ≤ℤ a → int_lt a b ≡ false
lt_no a b h = grind (arith, ints)

-- the column of p is left of that of q
abbrev pub IsLeftOf : Place → Place → Type 0
IsLeftOf p q = (p.x *ℤ pos q.w) <ℤ (q.x *ℤ pos p.w)

pub before_cut : (p q : Place) (e : ℕ) → 0 < p.w → 0 < q.w → IsLeftOf p q → q.x ≤ℤ pos (e * q.w) → p.x <ℤ pos (e * p.w)
before_cut p q e hp hq h k =
    let no : pos (e * p.w) ≤ℤ p.x → ⊥ = λ n.
    let t1 = times_le (e * p.w + down p.x) (up p.x) 0 q.w (omega (arith, ints)) (omega arith) in
    let t2 = times_le (up q.x) (e * q.w + down q.x) 0 p.w (omega (arith, ints)) (omega arith) in
    omega (arith, ints) in
    elim (order (pos (e * p.w)) p.x) [ inl n ↦ absurd (no n) | inr h ↦ h ]

-- ---- the height over a segment, as a difference of two sums
abbrev pub place : ℕ → ℕ → ℕ → ℕ → ℕ → Place
place xu xd yu yd w = record { x = pos xu -ℤ pos xd; y = pos yu -ℤ pos yd; w = w }

less : (u d n : ℕ) → (pos u -ℤ pos d) -ℤ pos n ≡ pos u -ℤ pos (d + n)
less u d n = omega (arith, ints)

abbrev pub high : GridSegment → ℕ → ℕ → ℕ → ℕ → ℕ → ℕ
high s xu xd yu yd w = s.b.x * yu + s.a.x * (yd + s.a.y * w) + (s.b.y * (xd + s.a.x * w) + s.a.y * xu)

abbrev pub low : GridSegment → ℕ → ℕ → ℕ → ℕ → ℕ → ℕ
low s xu xd yu yd w = s.b.x * (yd + s.a.y * w) + s.a.x * yu + (s.b.y * xu + s.a.y * (xd + s.a.x * w))

pub height_place : (s : GridSegment) (xu xd yu yd w : ℕ) → side_number_at s (place xu xd yu yd w)
    ≡ pos (high s xu xd yu yd w) -ℤ pos (low s xu xd yu yd w)
unfolding side_number_at
height_place s xu xd yu yd w = rw (
  less yu yd (s.a.y * w),
  less xu xd (s.a.x * w),
  difference-* s.b.x s.a.x yu
      (yd + s.a.y * w),
  difference-* s.b.y s.a.y xu (xd + s.a.x * w),
) (omega (arith, ints))

parts : (z : ℤ) → pos (up z) -ℤ pos (down z) ≡ z
parts z = omega (arith, ints)

pub height_is : (s : GridSegment) (q : Place) → side_number_at s q
    ≡ pos (high s (up q.x) (down q.x) (up q.y) (down q.y) q.w) -ℤ pos (low s (up q.x) (down q.x) (up q.y) (down q.y) q.w)
height_is s q =
    let e = height_place s (up q.x) (down q.x) (up q.y) (down q.y) q.w in
    subst (λ (y : ℤ). side_number_at s (record { x = q.x; y = y; w = q.w })
    ≡ pos (high s (up q.x) (down q.x) (up q.y) (down q.y) q.w) -ℤ pos (low s (up q.x) (down q.x) (up q.y) (down q.y) q.w)) (parts q.y)
    (subst (λ (x : ℤ). side_number_at s (record { x = x; y = pos (up q.y) -ℤ pos (down q.y); w = q.w })
    ≡ pos (high s (up q.x) (down q.x) (up q.y) (down q.y) q.w) -ℤ pos (low s (up q.x) (down q.x) (up q.y) (down q.y) q.w))
    (parts q.x) e)

-- ---- in the column of an end of a slanted segment the end tells the side

pub under_b : (s : GridSegment) (q : Place) → s.a.x < s.b.x → q.x ≡ pos (s.b.x * q.w) → q.y <ℤ pos (s.b.y * q.w)
    → side_number_at s q <ℤ pos 0
under_b s q h c l =
    let t = times s.a.x s.b.x (up q.y) (s.b.y * q.w + down q.y) h (omega (arith, ints)) in
    let m = ap up c in let n = ap down c in
    let f = ap (λ (t : ℕ). s.b.y * t) m in let g = ap (λ (t : ℕ). s.a.y * t) m in
    let f' = ap (λ (t : ℕ). s.b.y * t) n in let g' = ap (λ (t : ℕ). s.a.y * t) n in
    omega (arith, ints, height_is s q)

pub under_a : (s : GridSegment) (q : Place) → s.a.x < s.b.x → q.x ≡ pos (s.a.x * q.w) → q.y <ℤ pos (s.a.y * q.w)
    → side_number_at s q <ℤ pos 0
under_a s q h c l =
    let t = times s.a.x s.b.x (up q.y) (s.a.y * q.w + down q.y) h (omega (arith, ints)) in
    let m = ap up c in let n = ap down c in
    let f = ap (λ (t : ℕ). s.b.y * t) m in let g = ap (λ (t : ℕ). s.a.y * t) m in
    let f' = ap (λ (t : ℕ). s.b.y * t) n in let g' = ap (λ (t : ℕ). s.a.y * t) n in
    omega (arith, ints, height_is s q)

pub over_b : (s : GridSegment) (q : Place) → s.a.x < s.b.x → q.x ≡ pos (s.b.x * q.w) → pos (s.b.y * q.w) <ℤ q.y
    → pos 0 <ℤ side_number_at s q
over_b s q h c l =
    let t = times s.a.x s.b.x (s.b.y * q.w + down q.y) (up q.y) h (omega (arith, ints)) in
    let m = ap up c in let n = ap down c in
    let f = ap (λ (t : ℕ). s.b.y * t) m in let g = ap (λ (t : ℕ). s.a.y * t) m in
    let f' = ap (λ (t : ℕ). s.b.y * t) n in let g' = ap (λ (t : ℕ). s.a.y * t) n in
    omega (arith, ints, height_is s q)

pub over_a : (s : GridSegment) (q : Place) → s.a.x < s.b.x → q.x ≡ pos (s.a.x * q.w) → pos (s.a.y * q.w) <ℤ q.y
    → pos 0 <ℤ side_number_at s q
over_a s q h c l =
    let t = times s.a.x s.b.x (s.a.y * q.w + down q.y) (up q.y) h (omega (arith, ints)) in
    let m = ap up c in let n = ap down c in
    let f = ap (λ (t : ℕ). s.b.y * t) m in let g = ap (λ (t : ℕ). s.a.y * t) m in
    let f' = ap (λ (t : ℕ). s.b.y * t) n in let g' = ap (λ (t : ℕ). s.a.y * t) n in
    omega (arith, ints, height_is s q)

pub at_a : (s : GridSegment) (q : Place) → q.x ≡ pos (s.a.x * q.w) → q.y ≡ pos (s.a.y * q.w) → side_number_at s q ≡ pos 0
at_a s q c d =
    let m = ap up c in let n = ap down c in let k = ap up d in let l = ap down d in
    let f1 = ap (λ (t : ℕ). s.b.y * t) m in let g1 = ap (λ (t : ℕ). s.a.y * t) m in
    let f2 = ap (λ (t : ℕ). s.b.y * t) n in let g2 = ap (λ (t : ℕ). s.a.y * t) n in
    let f3 = ap (λ (t : ℕ). s.b.x * t) k in let g3 = ap (λ (t : ℕ). s.a.x * t) k in
    let f4 = ap (λ (t : ℕ). s.b.x * t) l in let g4 = ap (λ (t : ℕ). s.a.x * t) l in
    omega (arith, ints, height_is s q)

pub at_b : (s : GridSegment) (q : Place) → q.x ≡ pos (s.b.x * q.w) → q.y ≡ pos (s.b.y * q.w) → side_number_at s q ≡ pos 0
at_b s q c d =
    let m = ap up c in let n = ap down c in let k = ap up d in let l = ap down d in
    let f1 = ap (λ (t : ℕ). s.b.y * t) m in let g1 = ap (λ (t : ℕ). s.a.y * t) m in
    let f2 = ap (λ (t : ℕ). s.b.y * t) n in let g2 = ap (λ (t : ℕ). s.a.y * t) n in
    let f3 = ap (λ (t : ℕ). s.b.x * t) k in let g3 = ap (λ (t : ℕ). s.a.x * t) k in
    let f4 = ap (λ (t : ℕ). s.b.x * t) l in let g4 = ap (λ (t : ℕ). s.a.x * t) l in
    omega (arith, ints, height_is s q)

-- a vertical segment has its whole column on its line
pub at_vertical : (s : GridSegment) (q : Place) → s.a.x ≡ s.b.x → q.x ≡ pos (s.a.x * q.w) → side_number_at s q ≡ pos 0
at_vertical s q e c =
    let m = ap up c in let n = ap down c in
    let f1 = ap (λ (t : ℕ). s.b.y * t) m in let g1 = ap (λ (t : ℕ). s.a.y * t) m in
    let f2 = ap (λ (t : ℕ). s.b.y * t) n in let g2 = ap (λ (t : ℕ). s.a.y * t) n in
    let h1 = ap (λ (t : ℕ). t * up q.y) e in let h2 = ap (λ (t : ℕ). t * (down q.y + s.a.y * q.w)) e in
    let h3 = ap (λ (t : ℕ). t * (s.b.y * q.w)) e in
    omega (arith, ints, height_is s q)
