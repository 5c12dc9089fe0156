-- This file shows that the way straight up or down from a place inside a segment soon meets no other.
use Rattle.std.proofs.Common.{◌≡◌, ◌⊎◌, ℕ, zero, suc, ◌+◌, ◌*◌, ◌<◌, ◌≤◌, List, ℤ, pos, negsuc, ◌≤ℤ◌, refl, sym}
use Rattle.std.proofs.Common.{subst, ◌∙◌, arith, inl, inr}
use Rattle.std.specs.Prelude.{Contains}
use Rattle.std.proofs.lemmas.Int.{ints}
use borrow.Author.Differences.{up, down}
use Rattle.grid_base.specs.Segment.{GridSegment}
use Rattle.grid_base.specs.Sides.{Side}
use Rattle.grid_base.proofs.Turns.{times, times_le}
use Rattle.grid_base.specs.Plane.{Place, side_number_at, side_at, Spans, Holds, HoldsInside, IsFree, blend, IsBeside}
use Rattle.grid_base.proofs.Signs.{natural_order}
use Rattle.plane_classes.proofs.Ways.{zero_by}
use Rattle.plane_classes.proofs.Blends.{weighed, height_blend, blend_first, blend_turned}
use Rattle.plane_cells.proofs.Vertical.{held_at}

-- ---- heights that stay off 0
abbrev pub size : ℤ → ℕ
size z = up z + down z

stays_off : (A b D : ℕ) (h z : ℤ) → 0 < b → b * D ≤ A → size z < D → (h ≡ pos 0 → ⊥) → weighed A b h z ≡ pos 0 → ⊥
stays_off A b D (pos zero) z hb l s off e = off refl
stays_off A b D (pos (suc n)) (pos m) hb l s off e = absurd (up_up A b n m D hb l s e)
  where
    up_up : (A b n m D : ℕ) → 0 < b → b * D ≤ A → size (pos m) < D → weighed A b (pos (suc n)) (pos m) ≡ pos 0 → ⊥
    up_up A b n m D hb l s e = let t = times 0 b m D hb (omega (arith, ints, s)) in let u = times_le 0 n 0 A (omega arith) (omega arith) in
        omega (arith, ints, e)
stays_off A b D (pos (suc n)) (negsuc m) hb l s off e = absurd (up_down A b n m D hb l s e)
  where
    up_down : (A b n m D : ℕ) → 0 < b → b * D ≤ A → size (negsuc m) < D → weighed A b (pos (suc n)) (negsuc m) ≡ pos 0 → ⊥
    up_down A b n m D hb l s e = let t = times 0 b (suc m) D hb (omega (arith, ints, s)) in let u = times_le 0 n 0 A (omega arith)
        (omega arith) in omega (arith, ints, e)
stays_off A b D (negsuc n) (pos m) hb l s off e = absurd (down_up A b n m D hb l s e)
  where
    down_up : (A b n m D : ℕ) → 0 < b → b * D ≤ A → size (pos m) < D → weighed A b (negsuc n) (pos m) ≡ pos 0 → ⊥
    down_up A b n m D hb l s e = let t = times 0 b m D hb (omega (arith, ints, s)) in let u = times_le 0 n 0 A (omega arith)
        (omega arith) in omega (arith, ints, e)
stays_off A b D (negsuc n) (negsuc m) hb l s off e = absurd (down_down A b n m D hb l s e)
  where
    down_down : (A b n m D : ℕ) → 0 < b → b * D ≤ A → size (negsuc m) < D → weighed A b (negsuc n) (negsuc m) ≡ pos 0 → ⊥
    down_down A b n m D hb l s e = let t = times 0 b (suc m) D hb (omega (arith, ints, s)) in let u = times_le 0 n 0 A (omega arith)
        (omega arith) in omega (arith, ints, e)

own_off : (A b : ℕ) (h z : ℤ) → 0 < b → h ≡ pos 0 → (z ≡ pos 0 → ⊥) → weighed A b h z ≡ pos 0 → ⊥
own_off A b h (pos zero) hb e off f = off refl
own_off A b h (pos (suc m)) hb e off f = let t = times 0 b 0 (suc m) hb (omega arith) in let g : weighed A b (pos 0) (pos (suc m)) ≡ pos 0 =
    rw e at f in absurd (omega (arith, ints, g))
own_off A b h (negsuc m) hb e off f = let t = times 0 b 0 (suc m) hb (omega arith) in let g : weighed A b (pos 0) (negsuc m) ≡ pos 0 =
    rw e at f in absurd (omega (arith, ints, g))

-- ---- straight up or down from m
-- Z is infinitely far, up or down
pub record IsFar (Z : Place) : Type 0 where
  pub x : Z.x ≡ pos 0
  pub w : Z.w ≡ 0

unscale_from : (e A b v : ℕ) (x z : ℤ) (w : ℕ) → 0 < A → z ≡ pos 0 → w ≡ 0 → pos (e * (A * v + b * w)) ≤ℤ weighed A b x z → pos (e * v) ≤ℤ x
unscale_from e A b v x z w h p q k =
    let f : pos (e * (A * v + b * 0)) ≤ℤ weighed A b x (pos 0) = rw (p, q) at k in
    elim (natural_order (e * v + down x) (up x)) [
      | inl l ↦ omega (arith, ints, l)
      | inr l ↦ let t = times (up x) (e * v + down x) 0 A l h in absurd (omega (arith, ints, f))
    ]

unscale_to : (e A b v : ℕ) (x z : ℤ) (w : ℕ) → 0 < A → z ≡ pos 0 → w ≡ 0 → weighed A b x z ≤ℤ pos (e * (A * v + b * w)) → x ≤ℤ pos (e * v)
unscale_to e A b v x z w h p q k =
    let f : weighed A b x (pos 0) ≤ℤ pos (e * (A * v + b * 0)) = rw (p, q) at k in
    elim (natural_order (up x) (e * v + down x)) [
      | inl l ↦ omega (arith, ints, l)
      | inr l ↦ let t = times (e * v + down x) (up x) 0 A l h in absurd (omega (arith, ints, f))
    ]

spans_back : (s : GridSegment) (A b : ℕ) (m Z : Place) → 0 < A → IsFar Z → Spans s (blend A b m Z) → Spans s m
spans_back s A b m Z h f k =
    record { from = unscale_from s.a.x A b m.w m.x Z.x Z.w h f.x f.w k.from; to = unscale_to s.b.x A b m.w m.x Z.x Z.w h f.x f.w k.to }

-- what is asked of B and of a place m inside s
pub record IsLone (B : List GridSegment) (D : ℕ) (Z : Place) (s : GridSegment) (m : Place) : Type 0 where
  pub slanted : s.a.x < s.b.x
  pub real : 0 < m.w
  pub some : 0 < D
  pub inside : HoldsInside s m
  pub small : (u : GridSegment) → Contains B u → size (side_number_at u Z) < D
  pub not_flat : side_number_at s Z ≡ pos 0 → ⊥
  pub alone : (u : GridSegment) → Contains B u → Holds u m → (u ≡ s)
  pub all_slanted : (u : GridSegment) → Contains B u → u.a.x < u.b.x

some_real : (A b v w : ℕ) → 0 < A → 0 < v → 0 < A * v + b * w
some_real A b v w h k = let t = times 0 A 0 v h k in omega arith

free_off : (B : List GridSegment) (D : ℕ) (Z : Place) (s : GridSegment) (m : Place) (A b : ℕ) → IsFar Z → IsLone B D Z s m → 0 < b
    → b * D ≤ A → IsFree B (blend A b m Z)
free_off B D Z s m A b far lone hb l = record {
  real = some_real A b m.w Z.w some_A lone.real;
  apart = λ u c h. off u c h (sign_of (side_number_at u m));
}
  where
    some_A : 0 < A
    some_A = let t = times 0 b 0 D hb lone.some in omega (arith, l)

    zero_sum : (u : GridSegment) → Holds u (blend A b m Z) → weighed A b (side_number_at u m) (side_number_at u Z) ≡ pos 0
    zero_sum u h = sym (height_blend u A b m Z) ∙ zero_by _ h.line

    sign_of : (z : ℤ) → (z ≡ pos 0) ⊎ (z ≡ pos 0 → ⊥)
    sign_of (pos zero) = inl refl
    sign_of (pos (suc n)) = inr (λ e. omega (arith, ints, e))
    sign_of (negsuc n) = inr (λ e. omega (arith, ints, e))

    off : (u : GridSegment) → Contains B u → Holds u (blend A b m Z) → (side_number_at u m ≡ pos 0) ⊎ (side_number_at u m ≡ pos 0 → ⊥) → ⊥
    off u c h (inr d) = stays_off A b D (side_number_at u m) (side_number_at u Z) hb l (lone.small u c) d (zero_sum u h)
    off u c h (inl z) =
        let e = lone.alone u c (held_at u m lone.real (lone.all_slanted u c) (spans_back u A b m Z some_A far h.across) z) in
        own_off A b (side_number_at u m) (side_number_at u Z) hb z
        (λ f. lone.not_flat (subst (λ (v : GridSegment). side_number_at v Z ≡ pos 0) e f)) (zero_sum u h)

clear_off : (B : List GridSegment) (D : ℕ) (Z : Place) (s : GridSegment) (m : Place) → IsFar Z → IsLone B D Z s m → (i j : ℕ) → 0 < i
    → IsFree B (blend i j (blend D 1 m Z) m)
clear_off B D Z s m far lone i j h =
    subst (IsFree B) (sym (blend_turned i j (blend D 1 m Z) m ∙ blend_first D 1 j i m Z))
    (free_off B D Z s m (j + i * D) (i * 1) far lone (omega (arith, h)) (omega arith))

-- beside s, straight up or down from m
pub beside_far : (B : List GridSegment) (D : ℕ) (Z : Place) (s : GridSegment) (m : Place) (d : Side) → IsFar Z → IsLone B D Z s m
    → side_at s (blend D 1 m Z) ≡ d → IsBeside B s d (blend D 1 m Z)
beside_far B D Z s m d far lone e = record { side = e; goal = m; inside = lone.inside; clear = clear_off B D Z s m far lone }
