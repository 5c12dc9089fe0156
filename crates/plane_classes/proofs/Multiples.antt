-- This file shows that a place lies to segments as each multiple of it does, and that a free place is a free way to itself.
use Rattle.std.proofs.Common.{◌≡◌, ℕ, zero, suc, ◌+◌, ◌*◌, ◌<◌, List, ℤ, pos, negsuc, ◌≤ℤ◌, refl, sym, subst, ◌∙◌, arith}
use Rattle.std.proofs.Common.{inl, inr}
use Rattle.std.proofs.lemmas.Int.{ints}
use borrow.Author.Differences.{up, down}
use Rattle.grid_base.specs.Segment.{GridSegment}
use Rattle.grid_base.specs.Plane.{Place, side_number_at, Holds, IsFree, blend, IsFreeWay}
use Rattle.grid_base.proofs.Turns.{times}
use Rattle.grid_base.proofs.Signs.{order, on_by_zero}
use Rattle.plane_classes.proofs.Blends.{height_blend, weighed, one_place}
use Rattle.plane_classes.proofs.Ways.{zero_by}

zero_scaled : (j : ℕ) (y z : ℤ) → 0 < j → weighed 0 j y z ≡ pos 0 → z ≡ pos 0
zero_scaled j y (pos zero) h e = refl
zero_scaled j y (pos (suc n)) h e = let t = times 0 j 0 (suc n) h (omega arith) in absurd (omega (arith, ints))
zero_scaled j y (negsuc n) h e = let t = times 0 j 0 (suc n) h (omega arith) in absurd (omega (arith, ints))

from_scaled : (n j v w : ℕ) (y z : ℤ) → 0 < j → pos (n * (0 * v + j * w)) ≤ℤ weighed 0 j y z → pos (n * w) ≤ℤ z
from_scaled n j v w y z h l = elim (order (pos (n * w)) z) [
  | inl k ↦ k
  | inr k ↦ let t = times 0 j (up z) (n * w + down z) h (omega (arith, ints)) in absurd (omega (arith, ints))
]

to_scaled : (n j v w : ℕ) (y z : ℤ) → 0 < j → weighed 0 j y z ≤ℤ pos (n * (0 * v + j * w)) → z ≤ℤ pos (n * w)
to_scaled n j v w y z h l = elim (order z (pos (n * w))) [
  | inl k ↦ k
  | inr k ↦ let t = times 0 j (n * w + down z) (up z) h (omega (arith, ints)) in absurd (omega (arith, ints))
]

some_of_multiple : (v j w : ℕ) → 0 < 0 * v + j * w → 0 < w
some_of_multiple v j w some = grind arith

pub held_scaled : (t : GridSegment) (j : ℕ) (r m : Place) → 0 < j → Holds t (blend 0 j r m) → Holds t m
held_scaled t j r m h k = record {
  real = some_of_multiple r.w j m.w k.real;
  line = on_by_zero _ (zero_scaled j (side_number_at t r) (side_number_at t m) h (sym (height_blend t 0 j r m) ∙ zero_by _ k.line));
  across = record {
    from = from_scaled t.a.x j r.w m.w r.x m.x h k.across.from;
    to = to_scaled t.b.x j r.w m.w r.x m.x h k.across.to;
  };
  up = elim k.up [
    | inl l ↦ inl (from_scaled t.a.y j r.w m.w r.y m.y h l.0, to_scaled t.b.y j r.w m.w r.y m.y h l.1)
    | inr l ↦ inr (from_scaled t.b.y j r.w m.w r.y m.y h l.0, to_scaled t.a.y j r.w m.w r.y m.y h l.1)
  ];
}

-- ---- a place and itself
-- the ways from p to itself are its multiples
same_number : (i j : ℕ) (z : ℤ) → weighed i j z z ≡ weighed 0 (i + j) z z
same_number i j z = omega (arith, ints)

same_weight : (i j w : ℕ) → i * w + j * w ≡ 0 * w + (i + j) * w
same_weight i j w = omega arith

to_itself : (i j : ℕ) (p : Place) → blend i j p p ≡ blend 0 (i + j) p p
to_itself i j p = one_place _ _ _ _ _ _ (same_number i j p.x) (same_number i j p.y) (same_weight i j p.w)

some_multiple : (k w : ℕ) → 0 < k → 0 < w → 0 < 0 * w + k * w
some_multiple k w some real = grind arith

free_multiple : (B : List GridSegment) (p : Place) (k : ℕ) → 0 < k → IsFree B p → IsFree B (blend 0 k p p)
free_multiple B p k some free = record {
  real = some_multiple k p.w some free.real;
  apart = λ s there held. free.apart s there (held_scaled s k p p some held);
}

pub way_to_itself : (B : List GridSegment) (p : Place) → IsFree B p → IsFreeWay B p p
way_to_itself B p free i j some = subst (IsFree B) (sym (to_itself i j p)) (free_multiple B p (i + j) some free)
