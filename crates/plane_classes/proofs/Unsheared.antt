-- This file shows that places whose images are in one class of the sheared segments are in one class.
use Rattle.std.proofs.Common.{◌≡◌, ◌⊎◌, ℕ, suc, ◌+◌, ◌*◌, ◌<◌, List, [], ◌∷◌, map, ℤ}
use Rattle.std.proofs.Common.{pos, ◌-ℤ◌, ◌+ℤ◌, ◌*ℤ◌, ◌<ℤ◌, ◌≤ℤ◌, sym, subst, ◌∙◌, arith, inl, inr}
use Rattle.std.specs.Prelude.{Contains}
use Rattle.std.proofs.lemmas.Int.{ints}
use borrow.Author.Differences.{up, down}
use Rattle.grid_base.specs.Point.{IsBefore}
use Rattle.grid_base.specs.Segment.{GridSegment}
use Rattle.grid_base.proofs.Turns.{times, times_le}
use Rattle.grid_base.proofs.Signs.{order, on_by_zero}
use Rattle.grid_base.specs.Plane.{Place, IsAmong, side_number_at, Spans, Holds, IsFree, blend, IsFreeWay}
use Rattle.plane_classes.specs.Classes.{Joins, AreInOneClass}
use Rattle.plane_classes.proofs.Heights.{height_is}
use Rattle.plane_classes.proofs.Blends.{weighed, coord, blend_first}
use Rattle.plane_classes.proofs.Ways.{AreInOrder, zero_by}
use Rattle.plane_classes.proofs.ClassLemmas.{one_class_joined, one_class_back}
use Rattle.plane_classes.proofs.Cuts.{one_class_by_way}
use Rattle.plane_classes.proofs.Multiples.{held_scaled}
use Rattle.grid_base.proofs.Elements.{Contains-here, Contains-later, Contains-cases}
use Rattle.plane_classes.specs.Shear.{sheared, sheared_place}
use Rattle.plane_classes.proofs.Shears.{height_sheared, times_difference, same_record}

-- ---- a place that a segment holds is held by the sheared one
from_slanted : (n : ℕ) (s : GridSegment) (q : Place) → s.a.x < s.b.x → s.a.y < n → side_number_at s q ≡ pos 0 → Spans s q
    → q.y <ℤ pos (s.a.y * q.w) → pos ((n * s.a.x + s.a.y) * q.w) ≤ℤ (pos n *ℤ q.x +ℤ q.y)
from_slanted n s q o l z h k =
    let t1 = times_le (suc s.a.x) s.b.x (up q.y) (s.a.y * q.w + down q.y) o (omega (arith, ints)) in
    let t2 = times_le s.a.y (n + s.b.y) (s.a.x * q.w + down q.x) (up q.x) (omega arith) (omega (arith, ints, h.from)) in
    omega (arith, ints, height_is s q)

from_plain : (n : ℕ) (s : GridSegment) (q : Place) → Spans s q → pos (s.a.y * q.w) ≤ℤ q.y
    → pos ((n * s.a.x + s.a.y) * q.w) ≤ℤ (pos n *ℤ q.x +ℤ q.y)
from_plain n s q h k = let t = times_le (s.a.x * q.w + down q.x) (up q.x) 0 n (omega (arith, ints, h.from)) (omega arith) in
    omega (arith, ints)

to_slanted : (n : ℕ) (s : GridSegment) (q : Place) → s.a.x < s.b.x → s.a.y < n → side_number_at s q ≡ pos 0 → Spans s q
    → pos (s.b.y * q.w) <ℤ q.y → (pos n *ℤ q.x +ℤ q.y) ≤ℤ pos ((n * s.b.x + s.b.y) * q.w)
to_slanted n s q o l z h k =
    let t1 = times_le (suc s.a.x) s.b.x (s.b.y * q.w + down q.y) (up q.y) o (omega (arith, ints)) in
    let t2 = times_le s.a.y (n + s.b.y) (up q.x) (s.b.x * q.w + down q.x) (omega arith) (omega (arith, ints, h.to)) in
    omega (arith, ints, height_is s q)

to_plain : (n : ℕ) (s : GridSegment) (q : Place) → Spans s q → q.y ≤ℤ pos (s.b.y * q.w)
    → (pos n *ℤ q.x +ℤ q.y) ≤ℤ pos ((n * s.b.x + s.b.y) * q.w)
to_plain n s q h k = let t = times_le (up q.x) (s.b.x * q.w + down q.x) 0 n (omega (arith, ints, h.to)) (omega arith) in
    omega (arith, ints)

upright_range : (s : GridSegment) (q : Place) → s.a.y < s.b.y → IsAmong (pos (s.a.y * q.w)) (pos (s.b.y * q.w)) q.y
    → (pos (s.a.y * q.w) ≤ℤ q.y) × (q.y ≤ℤ pos (s.b.y * q.w))
upright_range s q o (inl k) = k
upright_range s q o (inr k) = let t = times_le s.a.y s.b.y 0 q.w (omega arith) (omega arith) in (
  omega (arith, ints, k.0, k.1),
  omega (arith, ints, k.0, k.1),
)

spans_sheared : (n : ℕ) (s : GridSegment) (q : Place) → IsBefore s.a s.b → s.a.y < n → Holds s q → Spans (sheared n s) (sheared_place n q)
spans_sheared n s q (inl o) l h = record {
  from = elim (order (pos (s.a.y * q.w)) q.y) [
    | inl k ↦ from_plain n s q h.across k
    | inr k ↦ from_slanted n s q o l
        (zero_by _ h.line) h.across k
  ];
  to = elim (order q.y (pos (s.b.y * q.w))) [
    | inl k ↦ to_plain n s q h.across k
    | inr k ↦ to_slanted n s q o l
        (zero_by _ h.line) h.across k
  ];
}
spans_sheared n s q (inr o) l h = let r = upright_range s q o.1 h.up in record {
  from = from_plain n s q h.across r.0;
  to = to_plain n s
      q h.across r.1;
}

pub held_after_shear : (n : ℕ) (s : GridSegment) (q : Place) → IsBefore s.a s.b → s.a.y < n → Holds s q
    → Holds (sheared n s) (sheared_place n q)
held_after_shear n s q o l h = record {
  real = h.real;
  line = on_by_zero _ (height_sheared n s q ∙ zero_product n (side_number_at s q) (zero_by _ h.line));
  across = spans_sheared n s q o l h;
  up = h.up;
}
  where
    zero_product : (n : ℕ) (z : ℤ) → z ≡ pos 0 → pos n *ℤ z ≡ pos 0
    zero_product n z e = rw e (omega (arith, ints))

-- ---- back to the plane
abbrev pub unsheared_place : ℕ → Place → Place
unsheared_place n r = record { x = r.x -ℤ r.y; y = pos n *ℤ r.y; w = n * r.w }

-- sheared again, a blend of two such places is a blend of the two that they came from
again_x : (n i j : ℕ) (x y x' y' : ℤ) → pos n *ℤ (weighed i j (x -ℤ y) (x' -ℤ y')) +ℤ (weighed i j (pos n *ℤ y) (pos n *ℤ y'))
    ≡ weighed (i * n) (j * n) x x'
again_x n i j x y x' y' =
    let e1 = times_difference n (i * (up x + down y) + j * (up x' + down y')) (i * (down x + up y) + j * (down x' + up y')) (weighed i j
    (x -ℤ y) (x' -ℤ y')) (gap_blend i j x y x' y') in
    let e2 = times_difference i (n * up y) (n * down y) (pos n *ℤ y) (one n y) in
    let e3 = times_difference j (n * up y') (n * down y') (pos n *ℤ y') (one n y') in
    let e4 = coord (i * n) (j * n) x x' in
    omega (arith, ints)
  where
    one : (n : ℕ) (y : ℤ) → pos n *ℤ y ≡ pos (n * up y) -ℤ pos (n * down y)
    one n y = omega (arith, ints)

    gap_blend : (i j : ℕ) (x y x' y' : ℤ) → weighed i j (x -ℤ y) (x' -ℤ y')
        ≡ pos (i * (up x + down y) + j * (up x' + down y')) -ℤ pos (i * (down x + up y) + j * (down x' + up y'))
    gap_blend i j x y x' y' =
        let f1 = times_difference i (up x + down y) (down x + up y) (x -ℤ y) (omega (arith, ints)) in
        let f2 = times_difference j (up x' + down y') (down x' + up y') (x' -ℤ y') (omega (arith, ints)) in
        omega (arith, ints)

again_y : (n i j : ℕ) (y y' : ℤ) → weighed i j (pos n *ℤ y) (pos n *ℤ y') ≡ weighed (i * n) (j * n) y y'
again_y n i j y y' =
    let e2 = times_difference i (n * up y) (n * down y) (pos n *ℤ y) (one n y) in
    let e3 = times_difference j (n * up y') (n * down y') (pos n *ℤ y') (one n y') in
    let e4 = coord (i * n) (j * n) y y' in
    omega (arith, ints)
  where
    one : (n : ℕ) (y : ℤ) → pos n *ℤ y ≡ pos (n * up y) -ℤ pos (n * down y)
    one n y = omega (arith, ints)

pub again : (n i j : ℕ) (p q : Place) → sheared_place n (blend i j (unsheared_place n p) (unsheared_place n q))
    ≡ blend (i * n) (j * n) p q
again n i j p q = same_record _ _ _ _ _ _ (again_x n i j p.x p.y q.x q.y) (again_y n i j p.y q.y) (weights i j n p.w q.w)
  where
    weights : (i j n v w : ℕ) → i * (n * v) + j * (n * w) ≡ i * n * v + j * n * w
    weights i j n v w = omega arith

-- the heights of the drawing are below n
abbrev pub AreBelow : ℕ → List GridSegment → Type 0
AreBelow n B = (s : GridSegment) → Contains B s → s.a.y < n

pub sheared_in : (n : ℕ) (B : List GridSegment) (s : GridSegment) → Contains B s → Contains (map (sheared n) B) (sheared n s)
sheared_in n [] s c = absurd (omega (arith, c.1))
sheared_in n (t ∷ B) s c = elim (Contains-cases t B s c) [
  | inl h ↦ subst (λ (u : GridSegment). Contains (map (sheared n) (t ∷ B)) (sheared n u)) h
      (Contains-here (sheared n t) (map (sheared n) B))
  | inr h ↦ Contains-later (sheared n t) (map (sheared n) B) (sheared n s) (sheared_in n B s h)
]

some_scaled : (i j n : ℕ) → 0 < n → 0 < i + j → 0 < i * n + j * n
some_scaled i j n h k = let t = times 0 (i + j) 0 n k h in omega arith

pub way_unsheared : (n : ℕ) (B : List GridSegment) (p q : Place) → AreInOrder B → AreBelow n B → 0 < n
    → IsFreeWay (map (sheared n) B) p q → IsFreeWay B (unsheared_place n p) (unsheared_place n q)
way_unsheared n B p q o l hn way i j k =
    let f = way (i * n) (j * n) (some_scaled i j n hn k) in
    record {
      real = subst (λ (w : ℕ). 0 < w) (weights i j n p.w q.w) f.real;
      apart = λ s c h. f.apart (sheared n s) (sheared_in n B s c)
          (subst (Holds (sheared n s)) (again n i j p q) (held_after_shear n s (blend i j (unsheared_place n p) (unsheared_place n q))
          (o s c) (l s c) h));
    }
  where
    weights : (i j n v w : ℕ) → i * n * v + j * n * w ≡ i * (n * v) + j * (n * w)
    weights i j n v w = omega arith

class_back_along : (n : ℕ) (B : List GridSegment) (p q : Place) (c : List Place) → AreInOrder B → AreBelow n B → 0 < n
    → Joins (map (sheared n) B) p c q → AreInOneClass B (unsheared_place n p) (unsheared_place n q)
class_back_along n B p q [] o l hn j = one_class_by_way B (unsheared_place n p) (unsheared_place n q)
    (way_unsheared n B p q o l hn j.no_segment_between)
class_back_along n B p q (r ∷ c) o l hn j =
    one_class_joined B (unsheared_place n p) (unsheared_place n r) (unsheared_place n q)
    (one_class_by_way B (unsheared_place n p) (unsheared_place n r) (way_unsheared n B p r o l hn j.0.no_segment_between))
    (class_back_along n B r q c o l hn j.1)

-- ---- a place and its multiples are in one class
double_x : (a b : ℕ) (x : ℤ) → weighed a b x x ≡ weighed 0 (a + b) x x
double_x a b x = omega (arith, ints)

double_w : (a b w : ℕ) → a * w + b * w ≡ 0 * w + (a + b) * w
double_w a b w = omega arith

free_multiple : (B : List GridSegment) (p : Place) (a b : ℕ) → 0 < a + b → IsFree B p → IsFree B (blend a b p p)
free_multiple B p a b k f = record {
  real = let t = times 0 (a + b) 0 p.w k f.real in omega arith;
  apart = λ s c h. f.apart s c (held_scaled s (a + b) p p k
      (subst (Holds s) (same_record _ _ _ _ _ _ (double_x a b p.x) (double_x a b p.y) (double_w a b p.w)) h));
}

way_multiple : (B : List GridSegment) (p : Place) (n : ℕ) → 0 < n → IsFree B p → IsFreeWay B p (blend 0 n p p)
way_multiple B p n hn f i j k = subst (IsFree B) (sym (blend_first 0 n i j p p)) (free_multiple B p (i + j * 0) (j * n)
    (some i j n hn k) f)
  where
    zero_or : (d : ℕ) → (d ≡ 0) ⊎ (0 < d)
    zero_or d = grind arith

    some : (i j n : ℕ) → 0 < n → 0 < i + j → 0 < i + j * 0 + j * n
    some i j n h k = elim (zero_or j) [ inl e ↦ omega arith | inr l ↦ let t = times 0 j 0 n l h in omega arith ]

there_and_back : (n : ℕ) (p : Place) → unsheared_place n (sheared_place n p) ≡ blend 0 n p p
there_and_back n p = same_record _ _ _ _ _ _ (back_x n p.x p.y) (back_y n p.y) (back_w n p.w)
  where
    back_x : (n : ℕ) (x y : ℤ) → (pos n *ℤ x +ℤ y) -ℤ y ≡ weighed 0 n x x
    back_x n x y = omega (arith, ints)

    back_y : (n : ℕ) (y : ℤ) → pos n *ℤ y ≡ weighed 0 n y y
    back_y n y = omega (arith, ints)

    back_w : (n w : ℕ) → n * w ≡ 0 * w + n * w
    back_w n w = omega arith

-- places whose images are in one class of the sheared segments are in one class
pub class_unsheared : (n : ℕ) (B : List GridSegment) (p q : Place) → AreInOrder B → AreBelow n B → 0 < n → IsFree B p → IsFree B q
    → AreInOneClass (map (sheared n) B) (sheared_place n p) (sheared_place n q) → AreInOneClass B p q
class_unsheared n B p q o l hn f g h =
    let mid = class_back_along n B (sheared_place n p) (sheared_place n q) h.0 o l hn h.1 in
    let mid' = subst (λ (v : Place). AreInOneClass B v (unsheared_place n (sheared_place n q))) (there_and_back n p) mid in
    let mid'' = subst (λ (v : Place). AreInOneClass B (blend 0 n p p) v) (there_and_back n q) mid' in
    one_class_joined B p (blend 0 n p p) q (one_class_by_way B p (blend 0 n p p) (way_multiple B p n hn f))
    (one_class_joined B (blend 0 n p p) (blend 0 n q q) q mid'' (one_class_back B q (blend 0 n q q) (one_class_by_way B q
    (blend 0 n q q) (way_multiple B q n hn g))))
