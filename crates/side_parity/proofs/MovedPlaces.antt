-- This file shows that a segment has a place where the moved segment has its image.
use Rattle.std.proofs.Common.{◌≡◌, ℕ, zero, suc, ◌+◌, ◌*◌, ◌<◌, ◌≤◌}
use Rattle.std.proofs.Common.{ℤ, pos, negsuc, ◌+ℤ◌, ◌-ℤ◌, ◌*ℤ◌, ◌≤ℤ◌, refl, sym, ap, subst, ◌∙◌, arith, inl, inr}
use Rattle.std.proofs.lemmas.Int.{ints}
use borrow.Author.Differences.{up, down}
use Rattle.grid_base.specs.Point.{GridPoint, IsBefore, IsFromTo}
use Rattle.grid_base.specs.Segment.{GridSegment}
use Rattle.grid_base.specs.Sides.{On, side_of}
use Rattle.grid_base.specs.Places.{RationalPoint, IsPlace, IsAt}
use Rattle.grid_base.specs.Plane.{Place, side_number_at, side_at, Holds, IsAtPoint, blend}
use Rattle.grid_base.proofs.Ends.{columns_in_order}
use Rattle.grid_base.proofs.Turns.{in_order}
use Rattle.grid_base.proofs.Signs.{on_by_zero}
use Rattle.side_parity.proofs.Images.{IsImage, moved, moved_point, number_moved}
use Rattle.side_parity.proofs.Regions.{mean}

-- ---- blends
blend_back : (n i j v w x y : ℕ) (p q : ℤ) → p +ℤ pos (n * v) ≡ pos x → q +ℤ pos (n * w) ≡ pos y
    → (pos i *ℤ p +ℤ pos j *ℤ q) +ℤ pos (n * (i * v + j * w)) ≡ pos (j * y + i * x)
blend_back n i j v w x y p q e f =
    let e1 : up p + n * v ≡ x + down p = omega (arith, ints) in
    let f1 : up q + n * w ≡ y + down q = omega (arith, ints) in
    let e2 = ap (λ (k : ℕ). i * k) e1 in
    let f2 = ap (λ (k : ℕ). j * k) f1 in
    omega (arith, ints)

weights_back : (i j v w v' w' : ℕ) → v ≡ v' → w ≡ w' → j * w + i * v ≡ i * v' + j * w'
weights_back i j v w v' w' e f = let e1 = ap (λ (k : ℕ). i * k) e in let f1 = ap (λ (k : ℕ). j * k) f in omega arith

-- the blend of two places is the mean of their images
pub blend_image : (n i j : ℕ) (p q : Place) (s r : RationalPoint) → IsImage n p s → IsImage n q r
    → IsImage n (blend i j p q) (mean j r i s)
blend_image n i j p q s r h k = record {
  across = blend_back n i j p.w q.w s.x r.x p.x q.x h.across k.across;
  up = blend_back n i j p.w q.w s.y r.y p.y q.y h.up k.up;
  weight = weights_back i j s.w r.w p.w q.w h.weight k.weight;
}

-- ---- places of segments
zero_by : (z : ℤ) → side_of z ≡ On → z ≡ pos 0
zero_by (pos zero) e = refl
zero_by (pos (suc n)) e = cc
zero_by (negsuc n) e = cc

no_difference : (y z : ℤ) → y -ℤ z ≡ pos 0 → y ≡ z
no_difference y z h = omega (arith, ints)

difference_none : (y z : ℤ) → y ≡ z → y -ℤ z ≡ pos 0
difference_none y z h = omega (arith, ints)

line_moved : (n : ℕ) (t : GridSegment) (q : Place) (r : RationalPoint) → IsImage n q r → side_at t q ≡ On
    → (pos (t.b.x + n) -ℤ pos (t.a.x + n)) *ℤ (pos r.y -ℤ pos ((t.a.y + n) * r.w))
    ≡ (pos (t.b.y + n) -ℤ pos (t.a.y + n)) *ℤ (pos r.x -ℤ pos ((t.a.x + n) * r.w))
unfolding side_number_at
line_moved n t q r h e = no_difference _ _ (number_moved n t q r h ∙ zero_by _ e)

on_back : (n : ℕ) (t : GridSegment) (q : Place) (r : RationalPoint) → IsImage n q r
    → (pos (t.b.x + n) -ℤ pos (t.a.x + n)) *ℤ (pos r.y -ℤ pos ((t.a.y + n) * r.w))
    ≡ (pos (t.b.y + n) -ℤ pos (t.a.y + n)) *ℤ (pos r.x -ℤ pos ((t.a.x + n) * r.w))
    → side_at t q ≡ On
unfolding side_number_at
on_back n t q r h e = on_by_zero _ (sym (number_moved n t q r h) ∙ difference_none _ _ e)

between_moved : (n a b w v x : ℕ) (z : ℤ) → z +ℤ pos (n * w) ≡ pos x → v ≡ w → pos (a * w) ≤ℤ z
    → z ≤ℤ pos (b * w)
    → IsFromTo ((a + n) * v) ((b + n) * v) x
between_moved n a b w v x z e f h k =
    let a1 = ap (λ (k : ℕ). a * k) f in
    let b1 = ap (λ (k : ℕ). b * k) f in
    let n1 = ap (λ (k : ℕ). n * k) f in
    let l : (a + n) * v ≤ x = omega (arith, ints) in
    let r : x ≤ (b + n) * v = omega (arith, ints) in
    (omega arith, omega arith)

turned : (a b x : ℕ) → IsFromTo a b x → IsFromTo b a x
turned a b x h = (omega (arith, h.0), omega (arith, h.1))

-- a segment that holds the place has its image, once both are moved
pub held_moved : (n : ℕ) (t : GridSegment) (q : Place) (r : RationalPoint) → IsImage n q r → Holds t q
    → IsPlace (moved n t) r
held_moved n t q r h k = record {
  real = subst (λ (w : ℕ). 0 < w) (sym h.weight) k.real;
  line = line_moved n t q r h k.line;
  across = between_moved n t.a.x t.b.x q.w r.w r.x q.x h.across h.weight k.across.from k.across.to;
  up = elim k.up [
    | inl l ↦ between_moved n t.a.y t.b.y q.w r.w r.y q.y h.up h.weight l.0 l.1
    | inr l ↦ turned _ _ _ (between_moved n t.b.y t.a.y q.w r.w r.y q.y h.up h.weight l.0 l.1)
  ];
}

between_back : (n a b w v x : ℕ) (z : ℤ) → z +ℤ pos (n * w) ≡ pos x → v ≡ w → a ≤ b
    → IsFromTo ((a + n) * v) ((b + n) * v) x
    → (pos (a * w) ≤ℤ z) × (z ≤ℤ pos (b * w))
between_back n a b w v x z e f o h =
    let a1 = ap (λ (k : ℕ). a * k) f in
    let b1 = ap (λ (k : ℕ). b * k) f in
    let n1 = ap (λ (k : ℕ). n * k) f in
    let s : a * v ≤ b * v = grind arith in
    let l : (a + n) * v ≤ x = omega (arith, h.0) in
    let r : x ≤ (b + n) * v = omega (arith, h.1) in
    (omega (arith, ints), omega (arith, ints))

-- and back
pub held_back : (n : ℕ) (t : GridSegment) (q : Place) (r : RationalPoint) → IsImage n q r → IsBefore t.a t.b
    → IsPlace (moved n t) r → Holds t q
held_back n t q r h o k = record {
  real = subst (λ (w : ℕ). 0 < w) h.weight k.real;
  line = on_back n t q r h k.line;
  across =
      let b = between_back n t.a.x t.b.x q.w r.w r.x q.x h.across h.weight (columns_in_order t.a t.b o) k.across in
      record { from = b.0; to = b.1 };
  up = elim (in_order t.a.y t.b.y) [
    | inl l ↦ inl (between_back n t.a.y t.b.y q.w r.w r.y q.y h.up h.weight l k.up)
    | inr l ↦ inr (between_back n t.b.y t.a.y q.w r.w r.y q.y h.up h.weight l (turned _ _ _ k.up))
  ];
}

at_moved : (n a w v x : ℕ) (z : ℤ) → z +ℤ pos (n * w) ≡ pos x → v ≡ w → z ≡ pos (a * w) → x ≡ (a + n) * v
at_moved n a w v x z e f h =
    let a1 = ap (λ (k : ℕ). a * k) f in
    let n1 = ap (λ (k : ℕ). n * k) f in
    omega (arith, ints)

at_back : (n a w v x : ℕ) (z : ℤ) → z +ℤ pos (n * w) ≡ pos x → v ≡ w → x ≡ (a + n) * v → z ≡ pos (a * w)
at_back n a w v x z e f h =
    let a1 = ap (λ (k : ℕ). a * k) f in
    let n1 = ap (λ (k : ℕ). n * k) f in
    omega (arith, ints)

pub point_moved : (n : ℕ) (p : GridPoint) (q : Place) (r : RationalPoint) → IsImage n q r → IsAtPoint q p
    → IsAt r (moved_point n p)
point_moved n p q r h k = (at_moved n p.x q.w r.w r.x q.x h.across h.weight k.0, at_moved n p.y q.w r.w r.y q.y h.up h.weight k.1)

pub point_back : (n : ℕ) (p : GridPoint) (q : Place) (r : RationalPoint) → IsImage n q r
    → IsAt r (moved_point n p) → IsAtPoint q p
point_back n p q r h k = (at_back n p.x q.w r.w r.x q.x h.across h.weight k.0, at_back n p.y q.w r.w r.y q.y h.up h.weight k.1)
