-- This file shows how blends of places lie to segments, and that a blend of blends is a blend.
use Rattle.std.proofs.Common.{◌≡◌, ◌⊎◌, ℕ, ◌+◌, ◌*◌, ◌<◌, ℤ, pos}
use Rattle.std.proofs.Common.{◌-ℤ◌, ◌+ℤ◌, ◌*ℤ◌, refl, sym, ap, subst, ◌∙◌, arith, inl, inr}
use Rattle.std.proofs.lemmas.Int.{ints}
use borrow.Author.Differences.{up, down}
use Rattle.grid_base.specs.Segment.{GridSegment}
use Rattle.grid_base.proofs.Turns.{times, times_le}
use Rattle.grid_base.specs.Plane.{Place, side_number_at, Spans, blend}
use Rattle.plane_classes.proofs.Heights.{height_is, height_place, high, low}

-- ---- blends
pub coord : (a b : ℕ) (x y : ℤ) → pos a *ℤ x +ℤ pos b *ℤ y ≡ pos (a * up x + b * up y) -ℤ pos (a * down x + b * down y)
coord a b x y = omega (arith, ints)

abbrev pub weighed : ℕ → ℕ → ℤ → ℤ → ℤ
weighed a b x y = pos a *ℤ x +ℤ pos b *ℤ y

sum_height : (z y : ℤ) (a b h l h' l' H L : ℕ) → z ≡ pos h -ℤ pos l → y ≡ pos h' -ℤ pos l' → H ≡ a * h + b * h' → L ≡ a * l + b * l'
    → pos H -ℤ pos L ≡ weighed a b z y
sum_height z y a b h l h' l' H L e f g k =
    let p : up z + l ≡ h + down z = omega (arith, ints) in
    let q : up y + l' ≡ h' + down y = omega (arith, ints) in
    let p' = ap (λ (t : ℕ). a * t) p in
    let q' = ap (λ (t : ℕ). b * t) q in
    omega (arith, ints)

-- the two sums of a height, of a blend
abbrev high_of : GridSegment → Place → ℕ
high_of s q = high s (up q.x) (down q.x) (up q.y) (down q.y) q.w

abbrev low_of : GridSegment → Place → ℕ
low_of s q = low s (up q.x) (down q.x) (up q.y) (down q.y) q.w

abbrev high_of_blend : GridSegment → ℕ → ℕ → Place → Place → ℕ
high_of_blend s a b m n = high s (a * up m.x + b * up n.x) (a * down m.x + b * down n.x) (a * up m.y + b * up n.y)
    (a * down m.y + b * down n.y) (a * m.w + b * n.w)

abbrev low_of_blend : GridSegment → ℕ → ℕ → Place → Place → ℕ
low_of_blend s a b m n = low s (a * up m.x + b * up n.x) (a * down m.x + b * down n.x) (a * up m.y + b * up n.y)
    (a * down m.y + b * down n.y) (a * m.w + b * n.w)

high_linear : (s : GridSegment) (a b : ℕ) (m n : Place) → high_of_blend s a b m n ≡ a * high_of s m + b * high_of s n
high_linear s a b m n = omega arith

low_linear : (s : GridSegment) (a b : ℕ) (m n : Place) → low_of_blend s a b m n ≡ a * low_of s m + b * low_of s n
low_linear s a b m n = omega arith

abbrev HeightIs : GridSegment → ℕ → ℕ → Place → Place → ℤ → ℤ → Type 0
HeightIs s a b m n x y = side_number_at s (record { x = x; y = y; w = a * m.w + b * n.w })
    ≡ pos (high_of_blend s a b m n) -ℤ pos (low_of_blend s a b m n)

height_parts : (s : GridSegment) (a b : ℕ) (m n : Place) → HeightIs s a b m n (weighed a b m.x n.x) (weighed a b m.y n.y)
height_parts s a b m n =
    let e = height_place s (a * up m.x + b * up n.x) (a * down m.x + b * down n.x) (a * up m.y + b * up n.y)
    (a * down m.y + b * down n.y) (a * m.w + b * n.w) in
    subst (λ (y : ℤ). HeightIs s a b m n (weighed a b m.x n.x) y) (sym (coord a b m.y n.y))
    (subst (λ (x : ℤ). HeightIs s a b m n x (pos (a * up m.y + b * up n.y) -ℤ pos (a * down m.y + b * down n.y))) (sym
    (coord a b m.x n.x)) e)

-- the height over a segment is linear
pub height_blend : (s : GridSegment) (a b : ℕ) (m n : Place)
    → side_number_at s (blend a b m n) ≡ weighed a b (side_number_at s m) (side_number_at s n)
height_blend s a b m n =
    height_parts s a b m n ∙ sum_height (side_number_at s m) (side_number_at s n) a b (high_of s m) (low_of s m) (high_of s n)
    (low_of s n)
    (high_of_blend s a b m n) (low_of_blend s a b m n) (height_is s m) (height_is s n) (high_linear s a b m n) (low_linear s a b m n)

-- columns are linear too
pub spans_blend : (s : GridSegment) (a b : ℕ) (m n : Place) → Spans s m → Spans s n → Spans s (blend a b m n)
spans_blend s a b m n h k =
    let f = times_le (s.a.x * m.w + down m.x) (up m.x) 0 a (omega (arith, ints, h.from)) (omega arith) in
    let g = times_le (s.a.x * n.w + down n.x) (up n.x) 0 b (omega (arith, ints, k.from)) (omega arith) in
    let f' = times_le (up m.x) (s.b.x * m.w + down m.x) 0 a (omega (arith, ints, h.to)) (omega arith) in
    let g' = times_le (up n.x) (s.b.x * n.w + down n.x) 0 b (omega (arith, ints, k.to)) (omega arith) in
    record { from = omega (arith, ints); to = omega (arith, ints) }

parts_back : (z : ℤ) → z ≡ pos (up z) -ℤ pos (down z)
parts_back z = omega (arith, ints)

one_number : (a b c d : ℕ) → a ≡ c → b ≡ d → pos a -ℤ pos b ≡ pos c -ℤ pos d
one_number a b c d h k = cc

-- ---- a blend of blends is a blend
weighed_first : (a b c d : ℕ) (x y : ℤ) → weighed c d x (weighed a b x y) ≡ weighed (c + d * a) (d * b) x y
weighed_first a b c d x y =
    let e = sum_height x (weighed a b x y) c d (up x) (down x) (a * up x + b * up y) (a * down x + b * down y)
    (c * up x + d * (a * up x + b * up y)) (c * down x + d * (a * down x + b * down y)) (parts_back x) (coord a b x y) refl refl in
    sym e ∙ one_number (c * up x + d * (a * up x + b * up y)) (c * down x + d * (a * down x + b * down y))
    ((c + d * a) * up x + d * b * up y) ((c + d * a) * down x + d * b * down y) (omega arith) (omega arith)
    ∙ sym (coord (c + d * a) (d * b) x y)

weighed_last : (a b c d : ℕ) (x y : ℤ) → weighed c d (weighed a b x y) y ≡ weighed (c * a) (c * b + d) x y
weighed_last a b c d x y =
    let e = sum_height (weighed a b x y) y c d (a * up x + b * up y) (a * down x + b * down y) (up y) (down y)
    (c * (a * up x + b * up y) + d * up y) (c * (a * down x + b * down y) + d * down y) (coord a b x y) (parts_back y) refl refl in
    sym e ∙ one_number (c * (a * up x + b * up y) + d * up y) (c * (a * down x + b * down y) + d * down y)
    (c * a * up x + (c * b + d) * up y) (c * a * down x + (c * b + d) * down y) (omega arith) (omega arith)
    ∙ sym (coord (c * a) (c * b + d) x y)

weighed_turned : (a b : ℕ) (x y : ℤ) → weighed a b x y ≡ weighed b a y x
weighed_turned a b x y = omega (arith, ints)

weighed_one : (x y : ℤ) → weighed 1 0 x y ≡ x
weighed_one x y = omega (arith, ints)

abbrev same_place : ℤ → ℤ → ℕ → Place
same_place x y w = record { x = x; y = y; w = w }

weights_first : (a b c d m n : ℕ) → c * m + d * (a * m + b * n) ≡ (c + d * a) * m + d * b * n
weights_first a b c d m n = omega arith

weights_last : (a b c d m n : ℕ) → c * (a * m + b * n) + d * n ≡ c * a * m + (c * b + d) * n
weights_last a b c d m n = omega arith

weights_turned : (a b m n : ℕ) → a * m + b * n ≡ b * n + a * m
weights_turned a b m n = omega arith

weights_one : (m n : ℕ) → 1 * m + 0 * n ≡ m
weights_one m n = omega arith

pub sum_turned : (a b : ℕ) → 0 < a + b → 0 < b + a
sum_turned a b h = omega arith

zero_or : (a : ℕ) → (a ≡ 0) ⊎ (0 < a)
zero_or a = grind arith

pub some_first : (a b c d : ℕ) → 0 < a + b → 0 < c + d → 0 < c + d * a + d * b
some_first a b c d h k = elim (zero_or c) [
  | inl e ↦ let t = times 0 d 0 (a + b) (omega arith) h in omega arith
  | inr l ↦ omega arith
]

pub some_last : (a b c d : ℕ) → 0 < a + b → 0 < c + d → 0 < c * a + (c * b + d)
some_last a b c d h k = elim (zero_or d) [
  | inl e ↦ let t = times 0 c 0 (a + b) (omega arith) h in omega arith
  | inr l ↦ omega arith
]

pub one_place : (x y x' y' : ℤ) (w w' : ℕ) → x ≡ x' → y ≡ y' → w ≡ w' → same_place x y w ≡ same_place x' y' w'
one_place x y x' y' w w' e f g = cc

pub blend_first : (a b c d : ℕ) (p q : Place) → blend c d p (blend a b p q) ≡ blend (c + d * a) (d * b) p q
blend_first a b c d p q = one_place _ _ _ _ _ _ (weighed_first a b c d p.x q.x) (weighed_first a b c d p.y q.y)
    (weights_first a b c d p.w q.w)

pub blend_last : (a b c d : ℕ) (p q : Place) → blend c d (blend a b p q) q ≡ blend (c * a) (c * b + d) p q
blend_last a b c d p q = one_place _ _ _ _ _ _ (weighed_last a b c d p.x q.x) (weighed_last a b c d p.y q.y)
    (weights_last a b c d p.w q.w)

pub blend_turned : (a b : ℕ) (p q : Place) → blend a b p q ≡ blend b a q p
blend_turned a b p q = one_place _ _ _ _ _ _ (weighed_turned a b p.x q.x) (weighed_turned a b p.y q.y) (weights_turned a b p.w q.w)

pub blend_one : (p q : Place) → blend 1 0 p q ≡ p
blend_one p q = one_place _ _ _ _ _ _ (weighed_one p.x q.x) (weighed_one p.y q.y) (weights_one p.w q.w)
