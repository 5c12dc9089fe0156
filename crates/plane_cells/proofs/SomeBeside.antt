-- This file shows that some place lies beside each segment, on each side.
use Rattle.std.proofs.Common.{◌≡◌, ℕ, zero, suc, ◌+◌, ◌-◌, ◌*◌, ◌<◌, List, map, ℤ, pos, negsuc, ◌-ℤ◌, ◌<ℤ◌, ◌≤ℤ◌, refl, sym, ap}
use Rattle.std.proofs.Common.{subst, ◌∙◌, arith, inl, inr}
use Rattle.std.specs.Prelude.{Contains}
use Rattle.std.proofs.lemmas.Int.{ints}
use Rattle.grid_base.specs.Segment.{GridSegment}
use Rattle.grid_base.specs.Sides.{Side, Left, Right, side_of}
use Rattle.grid_base.specs.Point.{IsBefore}
use Rattle.grid_base.proofs.Turns.{times}
use Rattle.grid_base.specs.Plane.{Place, side_number_at, side_at, Spans, Holds, HoldsInside, IsFree, blend, IsBeside}
use Rattle.grid_base.proofs.Signs.{on_by_zero, left_by_sign, right_by_sign}
use Rattle.plane_cells.proofs.Sided.{IsSlanted}
use Rattle.plane_classes.proofs.Ways.{AreInOrder}
use Rattle.plane_classes.proofs.Blends.{weighed, height_blend}
use Rattle.plane_classes.proofs.Unsheared.{unsheared_place, AreBelow, held_after_shear, sheared_in, again}
use Rattle.plane_cells.proofs.Vertical.{zenith, nadir, height_zenith, height_nadir, foot, column_real, column_after}
use Rattle.plane_cells.proofs.Vertical.{column_before, column_spans, held_at}
use Rattle.plane_classes.specs.Shear.{sheared}
use Rattle.plane_cells.proofs.ShearedRealm.{held_unsheared, at_sheared, back_and_there}
use Rattle.plane_cells.proofs.ShearedSides.{side_sheared}
use Rattle.plane_cells.proofs.FarUp.{size, IsFar, IsLone, beside_far}

-- ---- the place inside s, half a column behind its lesser end
abbrev pub half_column : GridSegment → Place
half_column s = record { x = pos (2 * s.a.x + 1); y = pos 0; w = 2 }

half_after : (s : GridSegment) → pos (s.a.x * (half_column s).w) <ℤ (half_column s).x
half_after s = omega (arith, ints)

half_before : (s : GridSegment) → s.a.x < s.b.x → (half_column s).x <ℤ pos (s.b.x * (half_column s).w)
half_before s o = omega (arith, ints, o)

less_le : (x y : ℤ) → x <ℤ y → x ≤ℤ y
less_le x y h = omega (arith, ints, h)

not_equal : (x y : ℤ) → x <ℤ y → x ≡ y → ⊥
not_equal x y h e = omega (arith, ints, h, e)

pub half_spans : (s : GridSegment) → s.a.x < s.b.x → Spans s (half_column s)
half_spans s o = record { from = less_le _ _ (half_after s); to = less_le _ _ (half_before s o) }

pub half_inside : (s : GridSegment) → (o : s.a.x < s.b.x) → HoldsInside s (foot s (half_column s) o).place
half_inside s o =
    let f = foot s (half_column s) o in
    record {
      held = held_at s f.place (column_real (half_column s) f.place f.column (omega arith)) o
          (column_spans s (half_column s) f.place f.column (half_spans s o)) f.zero;
      not_a = λ e. not_equal _ _ (column_after s.a.x (half_column s) f.place f.column (half_after s)) (sym e.0);
      not_b = λ e. not_equal _ _ (column_before s.b.x (half_column s) f.place f.column (half_before s o)) e.0;
    }

-- s has no place inside but its own: no other segment of B has one
pub record IsApart (B : List GridSegment) (D : ℕ) (s : GridSegment) : Type 0 where
  pub slanted : s.a.x < s.b.x
  pub all_slanted : (u : GridSegment) → Contains B u → u.a.x < u.b.x
  pub within : (u : GridSegment) → Contains B u → u.b.x < D
  pub alone : (u : GridSegment) (m : Place) → Contains B u → HoldsInside s m → Holds u m → u ≡ s

far_up : IsFar zenith
far_up = record { x = refl; w = refl }

far_down : IsFar nadir
far_down = record { x = refl; w = refl }

size_up : (s : GridSegment) (D : ℕ) → s.a.x < s.b.x → s.b.x < D → size (side_number_at s zenith) < D
size_up s D o l = let e : side_number_at s zenith ≡ pos (s.b.x - s.a.x) = height_zenith s ∙ omega (arith, ints, o) in
    subst (λ (z : ℤ). size z < D) (sym e) (small (s.b.x - s.a.x) D (omega (arith, l, o)))
  where
    small : (n D : ℕ) → n < D → size (pos n) < D
    small n D h = omega (arith, ints, h)

size_down : (s : GridSegment) (D : ℕ) → s.a.x < s.b.x → s.b.x < D → size (side_number_at s nadir) < D
size_down s D o l = small (side_number_at s nadir) s.a.x s.b.x D o l (height_nadir s)
  where
    small : (z : ℤ) (a b D : ℕ) → a < b → b < D → z ≡ pos a -ℤ pos b → size z < D
    small (pos n) a b D o l e = absurd (omega (arith, ints, o, e))
    small (negsuc n) a b D o l e = omega (arith, ints, o, l, e)

flat_up : (s : GridSegment) → s.a.x < s.b.x → side_number_at s zenith ≡ pos 0 → ⊥
flat_up s o e = omega (arith, ints, o, e, height_zenith s)

flat_down : (s : GridSegment) → s.a.x < s.b.x → side_number_at s nadir ≡ pos 0 → ⊥
flat_down s o e = omega (arith, ints, o, e, height_nadir s)

lone_up : (B : List GridSegment) (D : ℕ) (s : GridSegment) → (h : IsApart B D s)
    → IsLone B (D + 1) zenith s (foot s (half_column s) h.slanted).place
lone_up B D s h =
    let f = foot s (half_column s) h.slanted in
    record {
      slanted = h.slanted;
      real = column_real (half_column s) f.place f.column (omega arith);
      some = omega arith;
      inside = half_inside s h.slanted;
      small = λ u c. size_up u (D + 1) (h.all_slanted u c) (omega (arith, h.within u c));
      not_flat = flat_up s h.slanted;
      alone = λ u c held. h.alone u f.place c (half_inside s h.slanted) held;
      all_slanted = h.all_slanted;
    }

lone_down : (B : List GridSegment) (D : ℕ) (s : GridSegment) → (h : IsApart B D s)
    → IsLone B (D + 1) nadir s (foot s (half_column s) h.slanted).place
lone_down B D s h =
    let f = foot s (half_column s) h.slanted in
    record {
      slanted = h.slanted;
      real = column_real (half_column s) f.place f.column (omega arith);
      some = omega arith;
      inside = half_inside s h.slanted;
      small = λ u c. size_down u (D + 1) (h.all_slanted u c) (omega (arith, h.within u c));
      not_flat = flat_down s h.slanted;
      alone = λ u c held. h.alone u f.place c (half_inside s h.slanted) held;
      all_slanted = h.all_slanted;
    }

up_side : (D : ℕ) (h z : ℤ) → h ≡ pos 0 → pos 0 <ℤ z → pos 0 <ℤ weighed D 1 h z
up_side D h z e k = rw e (omega (arith, ints, k))

down_side : (D : ℕ) (h z : ℤ) → h ≡ pos 0 → z <ℤ pos 0 → weighed D 1 h z <ℤ pos 0
down_side D h z e k = rw e (omega (arith, ints, k))

-- some place lies beside a slanted segment, on its left and on its right
pub some_beside : (B : List GridSegment) (D : ℕ) (s : GridSegment) (d : Side) → IsApart B D s → IsSlanted d → (q : Place) × IsBeside B s d q
some_beside B D s d h (inl e) =
    let m = (foot s (half_column s) h.slanted) in (
      blend (D + 1) 1 m.place zenith,
      subst (λ (k : Side). IsBeside B s k (blend (D + 1) 1 m.place zenith)) (sym e)
          (beside_far B (D + 1) zenith s m.place Left far_up (lone_up B D s h)
          (left_by_sign _ (subst (λ (z : ℤ). pos 0 <ℤ z) (sym (height_blend s (D + 1) 1 m.place zenith))
          (up_side (D + 1) (side_number_at s m.place) (side_number_at s zenith) m.zero
          (omega (arith, ints, h.slanted, height_zenith s)))))),
    )
some_beside B D s d h (inr e) =
    let m = (foot s (half_column s) h.slanted) in (
      blend (D + 1) 1 m.place nadir,
      subst (λ (k : Side). IsBeside B s k (blend (D + 1) 1 m.place nadir)) (sym e)
          (beside_far B (D + 1) nadir s m.place Right far_down (lone_down B D s h)
          (right_by_sign _ (subst (λ (z : ℤ). z <ℤ pos 0) (sym (height_blend s (D + 1) 1 m.place nadir))
          (down_side (D + 1) (side_number_at s m.place) (side_number_at s nadir) m.zero
          (omega (arith, ints, h.slanted, height_nadir s)))))),
    )

-- ---- back from the sheared plane
held_once : (n : ℕ) (s : GridSegment) (q : Place) → IsBefore s.a s.b → s.a.y < n → 0 < n → HoldsInside (sheared n s) q
    → HoldsInside s (unsheared_place n q)
held_once n s q o l hn h = record {
  held = held_unsheared n s q o l hn h.held;
  not_a = λ e. h.not_a (at_sheared n s.a q hn e);
  not_b = λ e. h.not_b (at_sheared n s.b q hn e);
}

scaled_side : (n : ℕ) (z y : ℤ) → 0 < n → side_of (weighed 0 n y z) ≡ side_of z
scaled_side n (pos zero) y h = on_by_zero _ (omega (arith, ints))
scaled_side n (pos (suc m)) y h = let t = times 0 n 0 (suc m) h (omega arith) in left_by_sign _ (omega (arith, ints))
scaled_side n (negsuc m) y h = let t = times 0 n 0 (suc m) h (omega arith) in right_by_sign _ (omega (arith, ints))

side_unsheared : (n : ℕ) (s : GridSegment) (q : Place) → 0 < n → side_at s (unsheared_place n q) ≡ side_at (sheared n s) q
side_unsheared n s q hn =
    sym (side_sheared n s (unsheared_place n q) hn) ∙ ap (λ (r : Place). side_at (sheared n s) r) (back_and_there n q)
    ∙ ap side_of (height_blend (sheared n s) 0 n q q) ∙ scaled_side n (side_number_at (sheared n s) q) (side_number_at (sheared n s) q) hn

some_scaled : (i n : ℕ) → 0 < i → 0 < n → 0 < i * n
some_scaled i n h k = let t = times 0 i 0 n h k in omega arith

pub beside_unsheared : (n : ℕ) (B : List GridSegment) (s : GridSegment) (d : Side) (q : Place) → 0 < n → AreInOrder B → AreBelow n B
    → IsBefore s.a s.b → s.a.y < n → IsBeside (map (sheared n) B) (sheared n s) d q → IsBeside B s d (unsheared_place n q)
beside_unsheared n B s d q hn o l so sl h = record {
  side = side_unsheared n s q hn ∙ h.side;
  goal = unsheared_place n h.goal;
  inside = held_once n s h.goal so sl hn h.inside;
  clear = λ i j k. clear i j k;
}
  where
    weights : (i j n v w : ℕ) → i * n * v + j * n * w ≡ i * (n * v) + j * (n * w)
    weights i j n v w = omega arith

    clear : (i j : ℕ) → 0 < i → IsFree B (blend i j (unsheared_place n q) (unsheared_place n h.goal))
    clear i j k = let f = h.clear (i * n) (j * n) (some_scaled i n k hn) in record {
      real = subst (λ (w : ℕ). 0 < w) (weights i j n q.w h.goal.w) f.real;
      apart = λ u c g. f.apart (sheared n u) (sheared_in n B u c)
          (subst (Holds (sheared n u)) (again n i j q h.goal)
          (held_after_shear n u (blend i j (unsheared_place n q) (unsheared_place n h.goal)) (o u c) (l u c) g));
    }
