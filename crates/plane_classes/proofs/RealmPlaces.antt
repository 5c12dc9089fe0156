-- This file shows that segments that meet only in common ends, said of rational points, do so at all places.
use Rattle.std.proofs.Common.{◌≡◌, ◌⊎◌, ℕ, ◌*◌, ◌<◌, ◌≤◌, ℤ, pos, negsuc, ◌-ℤ◌}
use Rattle.std.proofs.Common.{◌*ℤ◌, ◌≤ℤ◌, ap, arith, inl, inr, List, Contains, sym, subst, ⊎_elim}
use Rattle.std.proofs.lemmas.Int.{ints}
use Rattle.grid_base.specs.Point.{GridPoint, IsFromTo}
use Rattle.grid_base.specs.Segment.{GridSegment, IsEnd}
use Rattle.grid_base.specs.Places.{RationalPoint, IsPlace, IsAt}
use Rattle.grid_base.specs.Plane.{Place, IsAmong, side_number_at, Holds, IsAtPoint}
use Rattle.grid_base.specs.Border.{AreNoded}
use Rattle.plane_classes.proofs.Ways.{zero_by}
use Rattle.plane_classes.proofs.AlongSegment.{IsAlone}

abbrev rational : ℕ → ℕ → ℕ → RationalPoint
rational x y w = record { x = x; y = y; w = w }

abbrev at : ℤ → ℤ → ℕ → Place
at x y w = record { x = x; y = y; w = w }

equal_parts : (a b : ℤ) → a -ℤ b ≡ pos 0 → a ≡ b
equal_parts a b h = omega (arith, ints, h)

on_line : (s : GridSegment) (x y w : ℕ) → side_number_at s (at (pos x) (pos y) w) ≡ pos 0
    → (pos s.b.x -ℤ pos s.a.x) *ℤ (pos y -ℤ pos (s.a.y * w)) ≡ (pos s.b.y -ℤ pos s.a.y) *ℤ (pos x -ℤ pos (s.a.x * w))
unfolding side_number_at
on_line s x y w h = equal_parts _ _ h

between : (a b n : ℕ) → ((pos a ≤ℤ pos n) × (pos n ≤ℤ pos b)) ⊎ ((pos b ≤ℤ pos n) × (pos n ≤ℤ pos a)) → IsFromTo a b n
between a b n (inl h) = let p : a ≤ n = omega (arith, ints, h.0) in let q : n ≤ b = omega (arith, ints, h.1) in (grind arith, grind arith)
between a b n (inr h) = let p : b ≤ n = omega (arith, ints, h.0) in let q : n ≤ a = omega (arith, ints, h.1) in (grind arith, grind arith)

-- a real place of the segment with whole numbers not below 0 is a rational point of it
place_of : (s : GridSegment) (x y w : ℕ) → 0 < w → Holds s (at (pos x) (pos y) w) → IsPlace s (rational x y w)
place_of s x y w real h = record {
  real = real;
  line = on_line s x y w (zero_by _ h.line);
  across = between (s.a.x * w) (s.b.x * w) x (inl (h.across.from, h.across.to));
  up = between (s.a.y * w) (s.b.y * w) y h.up;
}

low : (s : GridSegment) (y : ℤ) (w : ℕ) → IsAmong (pos (s.a.y * w)) (pos (s.b.y * w)) y → pos 0 ≤ℤ y
low s y w (inl h) = omega (arith, ints, h.0)
low s y w (inr h) = omega (arith, ints, h.0)

-- from the rational points to all places
pub meet_in_ends : (s t : GridSegment) (q : Place) → 0 < q.w → ((r : RationalPoint) → IsPlace s r → IsPlace t r
    → (p : GridPoint) × IsEnd p s × IsEnd p t × IsAt r p) → Holds s q → Holds t q
    → (p : GridPoint) × IsEnd p s × IsEnd p t × IsAtPoint q p
meet_in_ends s t q real only h k = go q.x q.y q.w real h k (omega (arith, ints, h.across.from)) (low s q.y q.w h.up)
  where
    go : (x y : ℤ) (w : ℕ) → 0 < w → Holds s (at x y w) → Holds t (at x y w) → pos 0 ≤ℤ x → pos 0 ≤ℤ y
        → (p : GridPoint) × IsEnd p s × IsEnd p t × IsAtPoint (at x y w) p
    go (pos x) (pos y) w r a b c d =
        let e = only (rational x y w) (place_of s x y w r a) (place_of t x y w r b) in
        (e.0, e.1, e.2, (ap (λ (n : ℕ). pos n) e.3.0, ap (λ (n : ℕ). pos n) e.3.1))
    go (pos x) (negsuc y) w r a b c d = absurd (omega (arith, ints, d))
    go (negsuc x) y w r a b c d = absurd (omega (arith, ints, c))

-- no other segment of a realm holds a place inside s
pub alone_in_realm : (B U : List GridSegment) (s : GridSegment) → AreNoded U → ((t : GridSegment) → Contains B t → Contains U t)
    → Contains U s → IsAlone B s
alone_in_realm B U s noded part s_there t m t_there other inside held =
    let (p, end_s, end_t, at_p) = meet_in_ends s t m held.real
    (λ r on_s on_t. noded.only_ends_in_common s t r s_there (part t t_there) (λ same. other (sym same)) on_s on_t) inside.held held in
    ⊎_elim (λ a. inside.not_a (subst (IsAtPoint m) a at_p)) (λ b. inside.not_b (subst (IsAtPoint m) b at_p)) end_s
