-- This file shows that a way to a place inside a segment passes each other segment as if it ended off it.
use Rattle.std.proofs.Common.{◌≡◌, ◌⊎◌, ℕ, zero, suc, ◌+◌, ◌*◌, ◌<◌, List, []}
use Rattle.std.proofs.Common.{◌∷◌, sym, subst, arith, inl, inr}
use Rattle.std.specs.Prelude.{Contains}
use Rattle.std.proofs.lemmas.List.Elements.{Contains-push_cases}
use Rattle.grid_base.specs.Segment.{GridSegment}
use Rattle.grid_base.proofs.Turns.{times}
use Rattle.grid_base.specs.Plane.{Place, Holds, IsFree, blend, IsFreeWay}
use Rattle.plane_classes.specs.Classes.{IsWall, IsWallBetween, TouchOneCell}
use Rattle.plane_classes.proofs.Multiples.{held_scaled}

-- ---- another segment of the border is passed by the way to m as if m were free
-- the way from r to m, m itself left out, meets no segment of B
abbrev pub IsClear : List GridSegment → Place → Place → Type 0
IsClear B r m = (i j : ℕ) → 0 < i → IsFree B (blend i j r m)

abbrev pub NoWall : List GridSegment → Place → Place → Type 0
NoWall B r m = (e : ℕ) → IsWall B e → IsWallBetween e r m → ⊥

pub one_of : (x y : GridSegment) → Contains (x ∷ []) y → x ≡ y
one_of x y h = elim (Contains-push_cases [] x y h) [ inl n ↦ absurd (omega (arith, n.1)) | inr e ↦ e ]

free_of_one : (B : List GridSegment) (t : GridSegment) (q : Place) → Contains B t → IsFree B q → IsFree (t ∷ []) q
free_of_one B t q m f = record {
  real = f.real;
  apart = λ u c h. f.apart t m (subst (λ (v : GridSegment). Holds v q) (sym
      (one_of t u c)) h);
}

way_past : (B : List GridSegment) (t : GridSegment) (r m : Place) → Contains B t → 0 < m.w → IsClear B r m → (Holds t m → ⊥)
    → IsFreeWay (t ∷ []) r m
way_past B t r m c real clear apart zero j k = record {
  real = some_weight j r.w m.w real (omega arith);
  apart = λ u d h. apart (held_scaled t j r m (omega arith) (subst (λ (v : GridSegment). Holds v (blend 0 j r m)) (sym
      (one_of t u d)) h));
}
  where
    some_weight : (j v w : ℕ) → 0 < w → 0 < j → 0 < 0 * v + j * w
    some_weight j v w h k = let t = times 0 j 0 w k h in omega arith
way_past B t r m c real clear apart (suc i) j k = free_of_one B t (blend (suc i) j r m) c (clear (suc i) j (omega arith))

pub wall_of_one : (B : List GridSegment) (t : GridSegment) (e : ℕ) → Contains B t → IsWall (t ∷ []) e → IsWall B e
wall_of_one B t e c w = (t, c, subst (λ (u : GridSegment). (e ≡ u.a.x) ⊎ (e ≡ u.b.x)) (sym (one_of t w.0 w.1)) w.2)

pub touch_past : (B : List GridSegment) (t : GridSegment) (r m : Place) → Contains B t → 0 < m.w → IsClear B r m → NoWall B r m
    → (Holds t m → ⊥) → TouchOneCell (t ∷ []) r m
touch_past B t r m c real clear walls apart = record {
  no_wall_between = λ e w b. walls e (wall_of_one B t e c w) b;
  no_segment_between = way_past B t r m c real clear apart;
}
