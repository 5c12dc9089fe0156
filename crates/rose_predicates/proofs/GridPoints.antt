-- This file shows where grid points are places of segments, and that places that two segments have are at common ends.
use Rattle.std.proofs.Common.{◌≡◌, ℕ, ◌+◌, ◌*◌, ◌<◌, ◌≤◌, List, Contains, ℤ, pos, ◌+ℤ◌, ◌*ℤ◌, ◌≤ℤ◌}
use Rattle.std.proofs.Common.{refl, sym, ap, subst, ◌∙◌, arith, inl, inr, false, ◌≢◌}
use Rattle.std.proofs.lemmas.Int.{ints}
use Rattle.std.proofs.lemmas.Bool.{cases_Bool, true≢false}
use Rattle.grid_base.specs.Point.{GridPoint, IsBefore, IsFromTo}
use Rattle.grid_base.specs.Segment.{GridSegment, IsEnd}
use Rattle.grid_base.specs.Sides.{side_of}
use Rattle.grid_base.specs.SideOf.{as_rational}
use Rattle.grid_base.specs.Crossing.{IsOn, Inside}
use Rattle.grid_base.specs.Plane.{Place, as_place, Holds, IsAmong, IsAtPoint, blend}
use Rattle.grid_base.specs.Border.{AreNoded}
use Rattle.grid_base.proofs.Ends.{columns_in_order, end_or_inside, same_point}
use Rattle.grid_base.proofs.GridPlaces.{number_at_point}
use Rattle.grid_base.proofs.Orders.{is_segment, is_segment-itself, is_segment-same}
use Rattle.grid_base.proofs.Signs.{on_by_zero}
use Rattle.grid_base.proofs.Turns.{in_order}
use Rattle.rose_values.specs.Areas.{IsOneOf}
use Rattle.side_parity.proofs.Near.{same_factor}
use Rattle.plane_classes.proofs.Heights.{at_a, at_b}
use Rattle.plane_classes.proofs.Multiples.{held_scaled}
use Rattle.plane_classes.proofs.RealmPlaces.{meet_in_ends}

-- ---- a grid point as a place
abbrev pub grid_place : GridPoint → Place
grid_place p = as_place (as_rational p)

one_fold : (n : ℕ) → pos n ≡ pos (n * 1)
one_fold n = omega (arith, ints)

pub at_itself : (p : GridPoint) → IsAtPoint (grid_place p) p
at_itself p = (one_fold p.x, one_fold p.y)

pub is_one_of : (points : List GridPoint) (p : GridPoint) → Contains points p → IsOneOf points (grid_place p)
is_one_of points p there = record { real = omega arith; there = (p, there, at_itself p) }

cancelled : (m n w : ℕ) (z : ℤ) → 0 < w → z ≡ pos (m * w) → z ≡ pos (n * w) → m ≡ n
cancelled m n w z real e f = same_factor w m n real (omega (arith, ints))

-- two grid points at one place are one
pub one_point : (q : Place) (p v : GridPoint) → 0 < q.w → IsAtPoint q p → IsAtPoint q v → p ≡ v
one_point q p v real a b = same_point p v (cancelled p.x v.x q.w q.x real a.0 b.0) (cancelled p.y v.y q.w q.y real a.1 b.1)

-- ---- a segment has its ends
fold_in_order : (m n w : ℕ) → m ≤ n → pos (m * w) ≤ℤ pos (n * w)
fold_in_order m n w h = let l : m * w ≤ n * w = grind arith in omega (arith, ints)

same_order : (n : ℤ) → n ≤ℤ n
same_order n = omega (arith, ints)

among : (m n w : ℕ) → IsAmong (pos (m * w)) (pos (n * w)) (pos (m * w)) × IsAmong (pos (m * w)) (pos (n * w)) (pos (n * w))
among m n w = elim (in_order m n) [
  | inl h ↦ (inl (same_order _, fold_in_order m n w h), inl (fold_in_order m n w h, same_order _))
  | inr h ↦ (inr (fold_in_order n m w h, same_order _), inr (same_order _, fold_in_order n m w h))
]

pub end_held : (s : GridSegment) (p : GridPoint) (q : Place) → IsBefore s.a s.b → IsEnd p s → 0 < q.w → IsAtPoint q p
    → Holds s q
end_held s p q first (inl is_a) real at =
    let x : q.x ≡ pos (s.a.x * q.w) = at.0 ∙ ap (λ (v : GridPoint). pos (v.x * q.w)) is_a in
    let y : q.y ≡ pos (s.a.y * q.w) = at.1 ∙ ap (λ (v : GridPoint). pos (v.y * q.w)) is_a in
    record {
      real = real;
      line = on_by_zero _ (at_a s q x y);
      across = record {
        from = subst (λ (n : ℤ). pos (s.a.x * q.w) ≤ℤ n) (sym x) (same_order _);
        to = subst (λ (n : ℤ). n ≤ℤ pos (s.b.x * q.w)) (sym x) (fold_in_order s.a.x s.b.x q.w (columns_in_order s.a s.b first));
      };
      up = subst (IsAmong (pos (s.a.y * q.w)) (pos (s.b.y * q.w))) (sym y) (among s.a.y s.b.y q.w).0;
    }
end_held s p q first (inr is_b) real at =
    let x : q.x ≡ pos (s.b.x * q.w) = at.0 ∙ ap (λ (v : GridPoint). pos (v.x * q.w)) is_b in
    let y : q.y ≡ pos (s.b.y * q.w) = at.1 ∙ ap (λ (v : GridPoint). pos (v.y * q.w)) is_b in
    record {
      real = real;
      line = on_by_zero _ (at_b s q x y);
      across = record {
        from = subst (λ (n : ℤ). pos (s.a.x * q.w) ≤ℤ n) (sym x) (fold_in_order s.a.x s.b.x q.w (columns_in_order s.a s.b first));
        to = subst (λ (n : ℤ). n ≤ℤ pos (s.b.x * q.w)) (sym x) (same_order _);
      };
      up = subst (IsAmong (pos (s.a.y * q.w)) (pos (s.b.y * q.w))) (sym y) (among s.a.y s.b.y q.w).1;
    }

-- ---- a segment has no other grid point of a list that is outside
-- the place q of p is its grid place, many times over
many_fold : (q : Place) (p : GridPoint) → IsAtPoint q p → blend 0 q.w q (grid_place p) ≡ q
many_fold q p at = λ i. record { x = (column i); y = (row i); w = weight i }
  where
    fold : (w n : ℕ) (y z : ℤ) → z ≡ pos (n * w) → pos 0 *ℤ y +ℤ pos w *ℤ pos n ≡ z
    fold w n y z e = omega (arith, ints)

    column : pos 0 *ℤ q.x +ℤ pos q.w *ℤ pos p.x ≡ q.x
    column = fold q.w p.x q.x q.x at.0

    row : pos 0 *ℤ q.y +ℤ pos q.w *ℤ pos p.y ≡ q.y
    row = fold q.w p.y q.y q.y at.1

    weight : 0 * q.w + q.w * 1 ≡ q.w
    weight = omega arith

between : (a b n : ℕ) → IsAmong (pos (a * 1)) (pos (b * 1)) (pos n) → IsFromTo a b n
between a b n (inl h) = let p : a ≤ n = omega (arith, ints, h.0) in let q : n ≤ b = omega (arith, ints, h.1) in (grind arith, grind arith)
between a b n (inr h) = let p : b ≤ n = omega (arith, ints, h.0) in let q : n ≤ a = omega (arith, ints, h.1) in (grind arith, grind arith)

on_by_held : (s : GridSegment) (p : GridPoint) → Holds s (grid_place p) → IsOn s p
on_by_held s p h = record {
  line = sym (ap side_of (number_at_point s p)) ∙ h.line;
  box = (between s.a.x s.b.x p.x (inl (h.across.from, h.across.to)), between s.a.y s.b.y p.y h.up);
}

pub held_at_end : (s : GridSegment) (p : GridPoint) (q : Place) → Holds s q → IsAtPoint q p → (Inside p s → ⊥) → IsEnd p s
held_at_end s p q h at outside =
    end_or_inside s p
    (on_by_held s p (held_scaled s q.w q (grid_place p) h.real (subst (Holds s) (sym (many_fold q p at)) h))) outside

-- ---- segments of a realm
pub common_end : (list : List GridSegment) (s t : GridSegment) (q : Place) → AreNoded list → Contains list s
    → Contains list t → Holds s q → Holds t q → (p : GridPoint) × IsEnd p s × IsEnd p t
common_end list s t q noded s_there t_there on_s on_t = elim (cases_Bool (is_segment s t)) [
  | inl same ↦ (s.a, inl refl, subst (IsEnd s.a) (is_segment-same s t same) (inl refl))
  | inr other ↦
      (let found = meet_in_ends s t q on_s.real
      (λ r a b. noded.only_ends_in_common s t r s_there t_there (other_one other) a b)
      on_s on_t in
      (found.0, found.1, found.2))
]
  where
    other_one : is_segment s t ≡ false → s ≢ t
    other_one other e = true≢false (sym (is_segment-itself s) ∙ ap (is_segment s) e ∙ other)
