-- This file shows that a shear of the plane, which makes the order of points the order of columns, keeps segments and ways.
use Rattle.std.proofs.Common.{◌≡◌, ℕ, zero, suc, ◌+◌, ◌*◌, ◌<◌, List, [], ◌∷◌, map, ℤ, pos}
use Rattle.std.proofs.Common.{negsuc, ◌-ℤ◌, ◌+ℤ◌, ◌*ℤ◌, ◌<ℤ◌, ◌≤ℤ◌, refl, sym, ap, subst, ◌∙◌, arith, inl, inr}
use Rattle.std.specs.Prelude.{Contains}
use Rattle.std.proofs.lemmas.Int.{ints}
use borrow.Author.Differences.{up, down}
use Rattle.grid_base.specs.Point.{GridPoint, IsBefore}
use Rattle.grid_base.specs.Segment.{GridSegment}
use Rattle.grid_base.proofs.Turns.{times, times_le}
use Rattle.grid_base.proofs.Signs.{order, on_by_zero, above_not_zero, below_not_zero}
use Rattle.grid_base.specs.Plane.{Place, IsAmong, side_number_at, Spans, Holds, IsFree, blend, IsFreeWay}
use Rattle.plane_classes.proofs.Heights.{height_is, height_place, high, low}
use Rattle.plane_classes.specs.Classes.{Joins, AreInOneClass}
use Rattle.plane_classes.proofs.Blends.{weighed, coord}
use Rattle.plane_classes.proofs.Ways.{AreInOrder, zero_by}
use Rattle.plane_classes.proofs.ClassLemmas.{one_class_joined}
use Rattle.plane_classes.proofs.Cuts.{one_class_by_way}
use Rattle.plane_classes.specs.Shear.{sheared_point, sheared, sheared_place}
use Rattle.grid_base.proofs.Elements.{Contains-here, Contains-later, Contains-cases}

-- the order of points is the order of columns
pub columns_in_order : (n : ℕ) (p q : GridPoint) → p.y < n → IsBefore p q → (sheared_point n p).x < (sheared_point n q).x
columns_in_order n p q h (inl k) = let t = times_le (suc p.x) q.x 0 n (omega arith) (omega arith) in omega arith
columns_in_order n p q h (inr k) = let t = ap (λ (x : ℕ). n * x) k.0 in omega (arith, k.1)

abbrev pub at : ℤ → ℤ → ℕ → Place
at x y w = record { x = x; y = y; w = w }

pub same_record : (x y x' y' : ℤ) (w w' : ℕ) → x ≡ x' → y ≡ y' → w ≡ w' → at x y w ≡ at x' y' w'
same_record x y x' y' w w' e f g = cc

-- ---- heights
shear_x : (n : ℕ) (x y : ℤ) → pos n *ℤ x +ℤ y ≡ pos (n * up x + up y) -ℤ pos (n * down x + down y)
shear_x n x y = omega (arith, ints)

parts_of : (z : ℤ) → pos (up z) -ℤ pos (down z) ≡ z
parts_of z = omega (arith, ints)

pub times_difference : (n h l : ℕ) (z : ℤ) → z ≡ pos h -ℤ pos l → pos (n * h) -ℤ pos (n * l) ≡ pos n *ℤ z
times_difference n h l z e = let f : up z + l ≡ h + down z = omega (arith, ints) in let g = ap (λ (t : ℕ). n * t) f in omega (arith, ints)

one_difference : (a b c d : ℕ) → a + d ≡ c + b → pos a -ℤ pos b ≡ pos c -ℤ pos d
one_difference a b c d h = omega (arith, ints)

sums_sheared : (n ax ay bx by xu xd yu yd w : ℕ) →
    (n * bx + by) * yu + (n * ax + ay) * (yd + ay * w) + (by * (n * xd + yd + (n * ax + ay) * w) + ay * (n * xu + yu))
    + n * (bx * (yd + ay * w) + ax * yu + (by * xu + ay * (xd + ax * w)))
    ≡ n * (bx * yu + ax * (yd + ay * w) + (by * (xd + ax * w) + ay * xu))
    + ((n * bx + by) * (yd + ay * w) + (n * ax + ay) * yu + (by * (n * xu + yu) + ay * (n * xd + yd + (n * ax + ay) * w)))
sums_sheared n ax ay bx by xu xd yu yd w = omega arith

pub height_sheared : (n : ℕ) (s : GridSegment) (q : Place) → side_number_at (sheared n s) (sheared_place n q)
    ≡ pos n *ℤ side_number_at s q
height_sheared n s q =
    let e = height_place (sheared n s) (n * up q.x + up q.y) (n * down q.x + down q.y) (up q.y) (down q.y) q.w in
    let H = high (sheared n s) (n * up q.x + up q.y) (n * down q.x + down q.y) (up q.y) (down q.y) q.w in
    let L = low (sheared n s) (n * up q.x + up q.y) (n * down q.x + down q.y) (up q.y) (down q.y) q.w in
    let f = subst (λ (y : ℤ). side_number_at (sheared n s) (at (pos (n * up q.x + up q.y) -ℤ pos (n * down q.x + down q.y)) y q.w)
    ≡ pos H -ℤ pos L) (parts_of q.y) e in
    let g = subst (λ (x : ℤ). side_number_at (sheared n s) (at x q.y q.w) ≡ pos H -ℤ pos L) (sym (shear_x n q.x q.y)) f in
    g ∙ one_difference H L (n * high s (up q.x) (down q.x) (up q.y) (down q.y) q.w) (n * low s (up q.x) (down q.x) (up q.y)
    (down q.y) q.w)
    (sums_sheared n s.a.x s.a.y s.b.x s.b.y (up q.x) (down q.x) (up q.y) (down q.y) q.w)
    ∙ times_difference n (high s (up q.x) (down q.x) (up q.y) (down q.y) q.w) (low s (up q.x) (down q.x) (up q.y) (down q.y) q.w)
    (side_number_at s q) (height_is s q)

pub zero_times : (n : ℕ) (z : ℤ) → 0 < n → pos n *ℤ z ≡ pos 0 → z ≡ pos 0
zero_times n (pos zero) h e = refl
zero_times n (pos (suc m)) h e = let t = times 0 n 0 (suc m) h (omega arith) in absurd (omega (arith, ints))
zero_times n (negsuc m) h e = let t = times 0 n 0 (suc m) h (omega arith) in absurd (omega (arith, ints))

-- ---- an upright segment
pub upright_left : (s : GridSegment) (r : Place) → s.a.x ≡ s.b.x → s.a.y < s.b.y → r.x <ℤ pos (s.a.x * r.w) → pos 0 <ℤ side_number_at s r
upright_left s r e o h =
    let t = times s.a.y s.b.y (up r.x) (s.a.x * r.w + down r.x) o (omega (arith, ints)) in
    let h1 = ap (λ (t : ℕ). t * up r.y) e in let h2 = ap (λ (t : ℕ). t * (down r.y + s.a.y * r.w)) e in
    omega (arith, ints, height_is s r)

pub upright_right : (s : GridSegment) (r : Place) → s.a.x ≡ s.b.x → s.a.y < s.b.y → pos (s.a.x * r.w) <ℤ r.x → side_number_at s r <ℤ pos 0
upright_right s r e o h =
    let t = times s.a.y s.b.y (s.a.x * r.w + down r.x) (up r.x) o (omega (arith, ints)) in
    let h1 = ap (λ (t : ℕ). t * up r.y) e in let h2 = ap (λ (t : ℕ). t * (down r.y + s.a.y * r.w)) e in
    omega (arith, ints, height_is s r)

-- ---- a place that a sheared segment holds was held
rises : (m n w : ℕ) → m * w < n * w → m < n
rises m n w h = grind arith

-- left of the lesser end: then it is above it by more, which the line forbids
not_before : (n : ℕ) (s : GridSegment) (q : Place) → s.a.x < s.b.x → side_number_at s q ≡ pos 0
    → pos ((n * s.a.x + s.a.y) * q.w) ≤ℤ (pos n *ℤ q.x +ℤ q.y)
    → IsAmong (pos (s.a.y * q.w)) (pos (s.b.y * q.w)) q.y → q.x <ℤ pos (s.a.x * q.w) → 0 < n → ⊥
not_before n s q o z h k l hn =
    let t = times 0 n (up q.x) (s.a.x * q.w + down q.x) hn (omega (arith, ints)) in
    let above : pos (s.a.y * q.w) <ℤ q.y = omega (arith, ints) in
    elim k [
      | inl m ↦
          let u = times s.a.x s.b.x (s.a.y * q.w + down q.y) (up q.y) o (omega (arith, ints)) in
          let r = rises s.a.y s.b.y q.w (omega (arith, ints, m.1)) in
          let v = times_le s.a.y s.b.y (up q.x) (s.a.x * q.w + down q.x) (omega arith) (omega (arith, ints)) in
          omega (arith, ints, height_is s q)
      | inr m ↦ absurd (omega (arith, ints, m.1))
    ]

not_behind : (n : ℕ) (s : GridSegment) (q : Place) → s.a.x < s.b.x → side_number_at s q ≡ pos 0
    → (pos n *ℤ q.x +ℤ q.y) ≤ℤ pos ((n * s.b.x + s.b.y) * q.w)
    → IsAmong (pos (s.a.y * q.w)) (pos (s.b.y * q.w)) q.y → pos (s.b.x * q.w) <ℤ q.x → 0 < n → ⊥
not_behind n s q o z h k l hn =
    let t = times 0 n (s.b.x * q.w + down q.x) (up q.x) hn (omega (arith, ints)) in
    let below : q.y <ℤ pos (s.b.y * q.w) = omega (arith, ints) in
    elim k [
      | inl m ↦
          let u = times s.a.x s.b.x (up q.y) (s.b.y * q.w + down q.y) o (omega (arith, ints)) in
          let r = rises s.a.y s.b.y q.w (omega (arith, ints, m.0)) in
          let v = times_le s.a.y s.b.y (s.b.x * q.w + down q.x) (up q.x) (omega arith) (omega (arith, ints)) in
          omega (arith, ints, height_is s q)
      | inr m ↦ absurd (omega (arith, ints, m.0))
    ]

within_columns : (n : ℕ) (s : GridSegment) (q : Place) → IsBefore s.a s.b → 0 < n → side_number_at s q ≡ pos 0
    → Spans (sheared n s) (sheared_place n q)
    → IsAmong (pos (s.a.y * q.w)) (pos (s.b.y * q.w)) q.y → Spans s q
within_columns n s q (inl o) hn z h k = record {
  from = elim (order (pos (s.a.x * q.w)) q.x) [ inl l ↦ l | inr l ↦ absurd (not_before n s q o z h.from k l hn) ];
  to = elim (order q.x (pos (s.b.x * q.w))) [ inl l ↦ l | inr l ↦ absurd (not_behind n s q o z h.to k l hn) ];
}
within_columns n s q (inr o) hn z h k =
    let t = ap (λ (x : ℕ). x * q.w) o.0 in
    record {
      from = elim (order (pos (s.a.x * q.w)) q.x) [ inl l ↦ l | inr l ↦ absurd (above_not_zero _ (upright_left s q o.0 o.1 l) z) ];
      to = elim (order q.x (pos (s.b.x * q.w))) [
        | inl l ↦ l
        | inr l ↦ absurd (below_not_zero _ (upright_right s q o.0 o.1
            (omega (arith, ints))) z)
      ];
    }

-- a place that a sheared segment holds was held
pub held_before_shear : (n : ℕ) (s : GridSegment) (q : Place) → IsBefore s.a s.b → 0 < n → Holds (sheared n s) (sheared_place n q)
    → Holds s q
held_before_shear n s q o hn h =
    let z = zero_times n (side_number_at s q) hn (sym (height_sheared n s q) ∙ zero_by _ h.line) in
    record { real = h.real; line = on_by_zero _ z; across = within_columns n s q o hn z h.across h.up; up = h.up }

-- a blend of sheared places is the sheared blend
blend_x : (n i j : ℕ) (x y x' y' : ℤ) → pos n *ℤ (weighed i j x x') +ℤ (weighed i j y y')
    ≡ weighed i j (pos n *ℤ x +ℤ y) (pos n *ℤ x' +ℤ y')
blend_x n i j x y x' y' =
    let e1 = times_difference n (i * up x + j * up x') (i * down x + j * down x') (weighed i j x x') (coord i j x x') in
    let e2 = times_difference i (n * up x + up y) (n * down x + down y) (pos n *ℤ x +ℤ y) (shear_x n x y) in
    let e3 = times_difference j (n * up x' + up y') (n * down x' + down y') (pos n *ℤ x' +ℤ y') (shear_x n x' y') in
    let e4 = coord i j y y' in
    omega (arith, ints)

pub shear_blend : (n i j : ℕ) (p q : Place) → sheared_place n (blend i j p q) ≡ blend i j (sheared_place n p) (sheared_place n q)
shear_blend n i j p q = ap (λ (x : ℤ). at x (blend i j p q).y (blend i j p q).w) (blend_x n i j p.x p.y q.x q.y)

-- ---- ways and classes
pub contains_map : (n : ℕ) (B : List GridSegment) (u : GridSegment) → Contains (map (sheared n) B) u
    → (s : GridSegment) × Contains B s × (sheared n s ≡ u)
contains_map n [] u c = absurd (omega (arith, c.1))
contains_map n (s ∷ B) u c = elim (Contains-cases (sheared n s) (map (sheared n) B) u c) [
  | inl h ↦ (s, Contains-here s B, h)
  | inr h ↦ let r = contains_map n B u h in (r.0, Contains-later s B r.0 r.1, r.2)
]

pub free_sheared : (n : ℕ) (B : List GridSegment) (q : Place) → AreInOrder B → 0 < n → IsFree B q
    → IsFree (map (sheared n) B) (sheared_place n q)
free_sheared n B q o hn f = record {
  real = f.real;
  apart = λ u c h. let r = contains_map n B u c in f.apart r.0 r.1 (held_before_shear n r.0 q (o r.0 r.1) hn (subst (λ
      (v : GridSegment). Holds v (sheared_place n q)) (sym r.2) h));
}

pub way_sheared : (n : ℕ) (B : List GridSegment) (p q : Place) → AreInOrder B → 0 < n → IsFreeWay B p q
    → IsFreeWay (map (sheared n) B) (sheared_place n p) (sheared_place n q)
way_sheared n B p q o hn way i j k = subst (IsFree (map (sheared n) B)) (shear_blend n i j p q) (free_sheared n B (blend i j p q) o hn
    (way i j k))

class_along : (n : ℕ) (B : List GridSegment) (p q : Place) (c : List Place) → AreInOrder B → 0 < n → Joins B p c q
    → AreInOneClass (map (sheared n) B) (sheared_place n p) (sheared_place n q)
class_along n B p q [] o hn j = one_class_by_way _ (sheared_place n p) (sheared_place n q) (way_sheared n B p q o hn j.no_segment_between)
class_along n B p q (r ∷ c) o hn j =
    one_class_joined _ (sheared_place n p) (sheared_place n r) (sheared_place n q)
    (one_class_by_way _ (sheared_place n p) (sheared_place n r) (way_sheared n B p r o hn j.0.no_segment_between))
    (class_along n B r q c o hn j.1)

-- places of one class are in one class of the sheared segments
pub class_sheared : (n : ℕ) (B : List GridSegment) (p q : Place) → AreInOrder B → 0 < n → AreInOneClass B p q
    → AreInOneClass (map (sheared n) B) (sheared_place n p) (sheared_place n q)
class_sheared n B p q o hn h = class_along n B p q h.0 o hn h.1
