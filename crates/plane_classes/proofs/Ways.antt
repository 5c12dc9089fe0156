-- This file shows that parts of a free way are free ways, and that one with no wall between its ends stays on one side of each segment.
use Rattle.std.proofs.Common.{◌≡◌, ◌⊎◌, ℕ, zero, suc, ◌+◌, ◌*◌, ◌<◌, ◌≤◌, List, ℤ, pos, negsuc}
use Rattle.std.proofs.Common.{◌<ℤ◌, ◌≤ℤ◌, refl, sym, ap, subst, ◌∙◌, arith, inl, inr}
use Rattle.std.specs.Prelude.{Contains}
use Rattle.std.proofs.lemmas.Int.{ints}
use borrow.Author.Differences.{up, down}
use Rattle.grid_base.specs.Point.{IsBefore}
use Rattle.grid_base.specs.Segment.{GridSegment}
use Rattle.grid_base.specs.Sides.{On, side_of}
use Rattle.grid_base.proofs.Turns.{times, times_le}
use Rattle.grid_base.proofs.Signs.{order, on_by_zero}
use Rattle.grid_base.specs.Plane.{Place, side_number_at, side_at, Spans, Holds, IsFree, blend, IsFreeWay}
use Rattle.plane_classes.proofs.Heights.{height_is, at_vertical}
use Rattle.plane_classes.proofs.Blends.{weighed, height_blend, spans_blend, sum_turned, some_first, some_last, blend_first, blend_last}
use Rattle.plane_classes.proofs.Blends.{blend_turned, blend_one}

pub zero_by : (z : ℤ) → side_of z ≡ On → z ≡ pos 0
zero_by (pos zero) e = refl
zero_by (pos (suc n)) e = cc
zero_by (negsuc n) e = cc

not_less : (a b : ℤ) → (b <ℤ a → ⊥) → a ≤ℤ b
not_less a b h = elim (order a b) [ inl k ↦ k | inr k ↦ absurd (h k) ]

line_rising_low : (s : GridSegment) (q : Place) → s.a.x < s.b.x → Spans s q → side_number_at s q ≡ pos 0 → s.a.y ≤ s.b.y
    → q.y <ℤ pos (s.a.y * q.w) → ⊥
line_rising_low s q o h z k n =
    let t = times s.a.x s.b.x (up q.y) (s.a.y * q.w + down q.y) o (omega (arith, ints)) in
    let u = times_le s.a.y s.b.y (s.a.x * q.w + down q.x) (up q.x) k (omega (arith, ints, h.from)) in
    omega (arith, ints, height_is s q)

line_rising_high : (s : GridSegment) (q : Place) → s.a.x < s.b.x → Spans s q → side_number_at s q ≡ pos 0 → s.a.y ≤ s.b.y
    → pos (s.b.y * q.w) <ℤ q.y → ⊥
line_rising_high s q o h z k n =
    let t = times s.a.x s.b.x (s.b.y * q.w + down q.y) (up q.y) o (omega (arith, ints)) in
    let u = times_le s.a.y s.b.y (up q.x) (s.b.x * q.w + down q.x) k (omega (arith, ints, h.to)) in
    omega (arith, ints, height_is s q)

line_falling_low : (s : GridSegment) (q : Place) → s.a.x < s.b.x → Spans s q → side_number_at s q ≡ pos 0 → s.b.y ≤ s.a.y
    → q.y <ℤ pos (s.b.y * q.w) → ⊥
line_falling_low s q o h z k n =
    let t = times s.a.x s.b.x (up q.y) (s.b.y * q.w + down q.y) o (omega (arith, ints)) in
    let u = times_le s.b.y s.a.y (up q.x) (s.b.x * q.w + down q.x) k (omega (arith, ints, h.to)) in
    omega (arith, ints, height_is s q)

line_falling_high : (s : GridSegment) (q : Place) → s.a.x < s.b.x → Spans s q → side_number_at s q ≡ pos 0 → s.b.y ≤ s.a.y
    → pos (s.a.y * q.w) <ℤ q.y → ⊥
line_falling_high s q o h z k n =
    let t = times s.a.x s.b.x (s.a.y * q.w + down q.y) (up q.y) o (omega (arith, ints)) in
    let u = times_le s.b.y s.a.y (s.a.x * q.w + down q.x) (up q.x) k (omega (arith, ints, h.from)) in
    omega (arith, ints, height_is s q)

either : (m n : ℕ) → (m ≤ n) ⊎ (n ≤ m)
either m n = grind arith

-- a place on the line of a slanted segment, in one of its columns, is on the segment
pub held_by_line : (s : GridSegment) (q : Place) → 0 < q.w → s.a.x < s.b.x → Spans s q → side_at s q ≡ On → Holds s q
held_by_line s q real o h l = record {
  real = real;
  line = l;
  across = h;
  up = elim (either s.a.y s.b.y) [
    | inl k ↦ inl (not_less _ _ (line_rising_low s q o h (zero_by _ l) k), not_less _ _ (line_rising_high s q o h (zero_by _ l) k))
    | inr k ↦ inr (not_less _ _ (line_falling_low s q o h (zero_by _ l) k), not_less _ _ (line_falling_high s q o h (zero_by _ l) k))
  ];
}

-- ---- a way on which all is free stays on one side of each segment whose columns have both ends
-- two heights of different signs, and the weights that bring them to 0
pub data Signs (x y : ℤ) : Type 0 where
  Zero : (x ≡ pos 0) ⊎ (y ≡ pos 0) → Signs x y
  Alike : side_of x ≡ side_of y → Signs x y
  Apart : (a b : ℕ) → 0 < a → weighed a b x y ≡ pos 0 → Signs x y

apart_down : (m n : ℕ) → weighed (suc n) (suc m) (pos (suc m)) (negsuc n) ≡ pos 0
apart_down m n = omega (arith, ints)

apart_up : (m n : ℕ) → weighed (suc n) (suc m) (negsuc m) (pos (suc n)) ≡ pos 0
apart_up m n = omega (arith, ints)

pub signs : (x y : ℤ) → Signs x y
signs (pos zero) y = Zero (inl refl)
signs (pos (suc m)) (pos zero) = Zero (inr refl)
signs (pos (suc m)) (pos (suc n)) = Alike refl
signs (pos (suc m)) (negsuc n) = Apart (suc n) (suc m) (omega arith) (apart_down m n)
signs (negsuc m) (pos zero) = Zero (inr refl)
signs (negsuc m) (pos (suc n)) = Apart (suc n) (suc m) (omega arith) (apart_up m n)
signs (negsuc m) (negsuc n) = Alike refl

blend_left : (a b : ℕ) → 0 < a → 0 < a + b
blend_left a b h = omega arith

-- the two ends of a free way are on one side of a slanted segment
same_side : (B : List GridSegment) (p q : Place) (s : GridSegment) → IsFreeWay B p q → Contains B s → s.a.x < s.b.x
    → IsFree B p → IsFree B q → Spans s p → Spans s q → side_at s p ≡ side_at s q
same_side B p q s way m o f g h k = elim (signs (side_number_at s p) (side_number_at s q)) [
  | Zero z ↦ elim z [
    | inl e ↦ absurd (f.apart s m (held_by_line s p f.real o h (on_by_zero _ e)))
    | inr e ↦ absurd (g.apart s m (held_by_line s q g.real o k (on_by_zero _ e)))
  ]
  | Alike e ↦ e
  | Apart a b l e ↦ absurd ((way a b (blend_left a b l)).apart s m
      (held_by_line s (blend a b p q) (way a b (blend_left a b l)).real o (spans_blend s a b p q h k) (on_by_zero _
      (height_blend s a b p q ∙ e))))
]

pub way_back : (B : List GridSegment) (p q : Place) → IsFreeWay B p q → IsFreeWay B q p
way_back B p q h a b l = subst (IsFree B) (blend_turned b a p q) (h b a (sum_turned a b l))

pub way_first : (B : List GridSegment) (p q : Place) (a b : ℕ) → 0 < a + b → IsFreeWay B p q → IsFreeWay B p (blend a b p q)
way_first B p q a b l h c d k = subst (IsFree B) (sym (blend_first a b c d p q)) (h (c + d * a) (d * b) (some_first a b c d l k))

pub way_last : (B : List GridSegment) (p q : Place) (a b : ℕ) → 0 < a + b → IsFreeWay B p q → IsFreeWay B (blend a b p q) q
way_last B p q a b l h c d k = subst (IsFree B) (sym (blend_last a b c d p q)) (h (c * a) (c * b + d) (some_last a b c d l k))

pub first_is_free : (B : List GridSegment) (p q : Place) → IsFreeWay B p q → IsFree B p
first_is_free B p q h = subst (IsFree B) (blend_one p q) (h 1 0 (omega arith))

pub last_is_free : (B : List GridSegment) (p q : Place) → IsFreeWay B p q → IsFree B q
last_is_free B p q h = first_is_free B q p (way_back B p q h)

-- the ends of each segment are in order
abbrev pub AreInOrder : List GridSegment → Type 0
AreInOrder B = (s : GridSegment) → Contains B s → IsBefore s.a s.b

-- ---- a way with no wall between its ends
pub vertical_column : (s : GridSegment) (q : Place) → s.a.x ≡ s.b.x → Spans s q → q.x ≡ pos (s.a.x * q.w)
vertical_column s q e h = let t = ap (λ (x : ℕ). x * q.w) e in omega (arith, ints, h.from, h.to)

pub one_side : (B : List GridSegment) (p q : Place) (s : GridSegment) → IsFreeWay B p q → Contains B s → IsBefore s.a s.b → Spans s p
    → Spans s q → side_at s p ≡ side_at s q
one_side B p q s way m (inl o) h k = same_side B p q s way m o (first_is_free B p q way) (first_is_free B q p (way_back B p q way)) h k
one_side B p q s way m (inr o) h k =
    on_by_zero _ (at_vertical s p o.0 (vertical_column s p o.0 h)) ∙ sym (on_by_zero _ (at_vertical s q o.0 (vertical_column s q o.0 k)))
