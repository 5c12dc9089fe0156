-- This file shows that moving the picture to where no coordinate is below 0 changes no side, no place and no parity.
use Rattle.std.proofs.Common.{◌≡◌, ℕ, ◌+◌, ◌-◌, ◌*◌, ◌<◌, ◌≤◌, Bool, ◌&&◌, List, [], ◌∷◌, map}
use Rattle.std.proofs.Common.{ℤ, pos, ◌+ℤ◌, ◌-ℤ◌, ◌*ℤ◌, ◌<ℤ◌, ◌≤ℤ◌, refl, ap, arith, inl, inr}
use Rattle.std.specs.Prelude.{int_le, int_lt, nat_le, nat_lt}
use Rattle.std.proofs.lemmas.Int.{ints}
use borrow.Author.Differences.{up, down}
use Rattle.grid_base.specs.Point.{GridPoint}
use Rattle.grid_base.specs.Segment.{GridSegment}
use Rattle.grid_base.specs.Sides.{side_of}
use Rattle.grid_base.specs.Places.{RationalPoint}
use Rattle.grid_base.specs.Plane.{Place, as_place, side_number_at, side_at}
use Rattle.grid_base.specs.Odd.{is_right, is_strictly_above}
use Rattle.grid_base.proofs.Signs.{order}
use Rattle.side_parity.specs.Middle.{differ}
use Rattle.side_parity.proofs.Regions.{is_odd}

-- ---- the moved picture
abbrev pub moved_point : ℕ → GridPoint → GridPoint
moved_point n p = record { x = p.x + n; y = p.y + n }

-- s, moved by n to the right and up
abbrev pub moved : ℕ → GridSegment → GridSegment
moved n s = record { a = moved_point n s.a; b = moved_point n s.b }

-- r is the place q in the picture moved by n
pub record IsImage (n : ℕ) (q : Place) (r : RationalPoint) : Type 0 where
  pub across : q.x +ℤ pos (n * q.w) ≡ pos r.x
  pub up : q.y +ℤ pos (n * q.w) ≡ pos r.y
  pub weight : r.w ≡ q.w

-- each place has an image where the picture is moved far enough
abbrev pub image : ℕ → Place → RationalPoint
image n q = record { x = up q.x + (n * q.w - down q.x); y = up q.y + (n * q.w - down q.y); w = q.w }

-- how far is enough for q
abbrev pub reach : Place → ℕ
reach q = down q.x + down q.y

far_enough : (n w : ℕ) (z : ℤ) → 0 < w → down z ≤ n → down z ≤ n * w
far_enough n w z h k = grind arith

at_up : (n w : ℕ) (z : ℤ) → down z ≤ n * w → z +ℤ pos (n * w) ≡ pos (up z + (n * w - down z))
at_up n w z h = omega (arith, ints)

pub has_image : (n : ℕ) (q : Place) → 0 < q.w → reach q ≤ n → IsImage n q (image n q)
has_image n q w h = record {
  across = at_up n q.w q.x (far_enough n q.w q.x w (omega arith));
  up = at_up n q.w q.y (far_enough n q.w q.y w (omega arith));
  weight = refl;
}

-- each rational point is the image of a place
abbrev pub lowered : ℕ → RationalPoint → Place
lowered n r = record { x = pos r.x -ℤ pos (n * r.w); y = pos r.y -ℤ pos (n * r.w); w = r.w }

pub lowered_image : (n : ℕ) (r : RationalPoint) → IsImage n (lowered n r) r
lowered_image n r = record { across = omega (arith, ints); up = omega (arith, ints); weight = refl }

-- ---- sides
step_back : (n a b : ℕ) → pos (b + n) -ℤ pos (a + n) ≡ pos b -ℤ pos a
step_back n a b = omega (arith, ints)

offset_back : (n a w v x : ℕ) (z : ℤ) → z +ℤ pos (n * w) ≡ pos x → v ≡ w
    → pos x -ℤ pos ((a + n) * v) ≡ z -ℤ pos (a * w)
offset_back n a w v x z e f =
    let f1 = ap (λ (k : ℕ). a * k) f in
    let f2 = ap (λ (k : ℕ). n * k) f in
    omega (arith, ints)

number_by : (dx dy u v dx' dy' u' v' : ℤ) → dx ≡ dx' → dy ≡ dy' → u ≡ u' → v ≡ v'
    → (dx *ℤ u) -ℤ (dy *ℤ v) ≡ (dx' *ℤ u') -ℤ (dy' *ℤ v')
number_by dx dy u v dx' dy' u' v' e f g h = cc

pub number_moved : (n : ℕ) (t : GridSegment) (q : Place) (r : RationalPoint) → IsImage n q r
    → side_number_at (moved n t) (as_place r) ≡ side_number_at t q
unfolding side_number_at
number_moved n t q r h =
    number_by _ _ _ _ _ _ _ _ (step_back n t.a.x t.b.x) (step_back n t.a.y t.b.y)
    (offset_back n t.a.y q.w r.w r.y q.y h.up h.weight) (offset_back n t.a.x q.w r.w r.x q.x h.across h.weight)

pub side_moved : (n : ℕ) (t : GridSegment) (q : Place) (r : RationalPoint) → IsImage n q r
    → side_at (moved n t) (as_place r) ≡ side_at t q
side_moved n t q r h = ap side_of (number_moved n t q r h)

-- ---- parity
both_le : (m k : ℕ) (a b : ℤ) → m ≤ k → a ≤ℤ b → nat_le m k ≡ int_le a b
both_le m k a b h g = grind (arith, ints)

neither_le : (m k : ℕ) (a b : ℤ) → k < m → b <ℤ a → nat_le m k ≡ int_le a b
neither_le m k a b h g = grind (arith, ints)

both_lt : (m k : ℕ) (a b : ℤ) → m < k → a <ℤ b → nat_lt m k ≡ int_lt a b
both_lt m k a b h g = grind (arith, ints)

neither_lt : (m k : ℕ) (a b : ℤ) → k ≤ m → b ≤ℤ a → nat_lt m k ≡ int_lt a b
neither_lt m k a b h g = grind (arith, ints)

not_above : (m k : ℕ) → (m ≤ k → ⊥) → k < m
not_above m k h = omega (arith, h)

not_below : (m k : ℕ) → (m < k → ⊥) → k ≤ m
not_below m k h = omega (arith, h)

apart_le : (a b : ℤ) → a ≤ℤ b → b <ℤ a → ⊥
apart_le a b h k = omega (arith, ints)

le_same : (m k : ℕ) (a b : ℤ) → (m ≤ k → a ≤ℤ b) → (a ≤ℤ b → m ≤ k) → nat_le m k ≡ int_le a b
le_same m k a b h g = elim (order a b) [
  | inl l ↦ both_le m k a b (g l) l
  | inr l ↦ neither_le m k a b (not_above m k (λ o. apart_le a b (h o) l)) l
]

lt_same : (m k : ℕ) (a b : ℤ) → (m < k → a <ℤ b) → (a <ℤ b → m < k) → nat_lt m k ≡ int_lt a b
lt_same m k a b h g = elim (order b a) [
  | inr l ↦ both_lt m k a b (g l) l
  | inl l ↦ neither_lt m k a b (not_below m k (λ o. apart_le b a l (h o))) l
]

three_tests : (a b c d e f : Bool) → a ≡ d → b ≡ e → c ≡ f → (a && b && c) ≡ (d && e && f)
three_tests a b c d e f h k l = cc

from_back : (n a w v x : ℕ) (z : ℤ) → z +ℤ pos (n * w) ≡ pos x → v ≡ w
    → nat_le ((a + n) * v) x ≡ int_le (pos (a * w)) z
from_back n a w v x z e f =
    let f1 = ap (λ (k : ℕ). a * k) f in
    let f2 = ap (λ (k : ℕ). n * k) f in
    le_same ((a + n) * v) x (pos (a * w)) z (λ h. omega (arith, ints)) (λ h. omega (arith, ints))

to_back : (n b w v x : ℕ) (z : ℤ) → z +ℤ pos (n * w) ≡ pos x → v ≡ w
    → nat_lt x ((b + n) * v) ≡ int_lt z (pos (b * w))
to_back n b w v x z e f =
    let f1 = ap (λ (k : ℕ). b * k) f in
    let f2 = ap (λ (k : ℕ). n * k) f in
    lt_same x ((b + n) * v) z (pos (b * w)) (λ h. omega (arith, ints)) (λ h. omega (arith, ints))

over_moved : (n : ℕ) (t : GridSegment) (q : Place) (r : RationalPoint) → IsImage n q r
    → is_strictly_above (moved n t) (as_place r) ≡ is_strictly_above t q
over_moved n t q r h =
    three_tests _ _ _ _ _ _ (from_back n t.a.x q.w r.w r.x q.x h.across h.weight) (to_back n t.b.x q.w r.w r.x q.x h.across h.weight)
    (ap is_right (side_moved n t q r h))

pub odd_moved : (n : ℕ) (B : List GridSegment) (q : Place) (r : RationalPoint) → IsImage n q r
    → is_odd (map (moved n) B) (as_place r) ≡ is_odd B q
odd_moved n [] q r h = refl
odd_moved n (t ∷ B) q r h = λ i. differ (over_moved n t q r h i) (odd_moved n B q r h i)
