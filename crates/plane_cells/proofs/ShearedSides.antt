-- This file shows that the labels of a sweep in the sheared plane tell the classes of the plane itself.
use Rattle.std.proofs.Common.{◌≡◌, ℕ, zero, suc, ◌+◌, ◌*◌, ◌<◌, List, [], map, length, ℤ, pos, negsuc, ◌+ℤ◌, ◌*ℤ◌, ◌<ℤ◌, ap, subst}
use Rattle.std.proofs.Common.{◌∙◌, arith}
use Rattle.std.proofs.lemmas.Int.{ints}
use Rattle.grid_base.specs.Point.{GridPoint, IsBefore}
use Rattle.grid_base.specs.Segment.{GridSegment}
use Rattle.grid_base.specs.Sides.{Side, side_of}
use Rattle.grid_base.proofs.Turns.{times}
use Rattle.grid_base.specs.Plane.{Place, side_number_at, side_at, HoldsInside, IsAtPoint, IsFree, blend, IsBeside}
use Rattle.grid_base.proofs.Signs.{left_by_sign, right_by_sign}
use Rattle.plane_classes.specs.Classes.{AreInOneClass, IsLeftOfAll, IsOuter}
use Rattle.plane_cells.proofs.Sided.{IsSlanted}
use Rattle.plane_classes.proofs.Ways.{AreInOrder}
use Rattle.plane_classes.proofs.Blends.{blend_one}
use Rattle.plane_classes.proofs.ClassLemmas.{itself_in_class}
use Rattle.plane_classes.proofs.Outer.{outside, outside_is_left, left_is_free, outer_is_one}
use Rattle.plane_classes.specs.Shear.{sheared_place}
use Rattle.plane_classes.proofs.Shears.{height_sheared, shear_blend, free_sheared, class_sheared}
use Rattle.plane_classes.proofs.Unsheared.{AreBelow, held_after_shear, class_unsheared}
use Rattle.plane_cells.specs.Steps.{Step, links, HaveRights}
use Rattle.linked_parts.specs.Parts.{AreLinked}
use Rattle.plane_cells.specs.Walks.{None, Walk}
use Rattle.plane_classes.specs.Shear.{sheared_point, sheared}
use Rattle.plane_cells.specs.Numbered.{numbered}
use Rattle.plane_cells.proofs.Numbered.{IsSweep, sides_of_one_class, labels_of_sides, outer_side, label_of_outer}
use Rattle.plane_cells.proofs.ShearedRealm.{IsRealmBelow, position, within, numbered_in}
use Rattle.plane_cells.proofs.Beside.{side_label}

-- ---- sides
pub up_scaled : (n : ℕ) (z : ℤ) → 0 < n → pos 0 <ℤ z → pos 0 <ℤ (pos n *ℤ z)
up_scaled n (pos zero) h k = absurd (omega (arith, ints, k))
up_scaled n (pos (suc m)) h k = let t = times 0 n 0 (suc m) h (omega arith) in omega (arith, ints)
up_scaled n (negsuc m) h k = absurd (omega (arith, ints, k))

pub down_scaled : (n : ℕ) (z : ℤ) → 0 < n → z <ℤ pos 0 → (pos n *ℤ z) <ℤ pos 0
down_scaled n (pos m) h k = absurd (omega (arith, ints, k))
down_scaled n (negsuc m) h k = let t = times 0 n 0 (suc m) h (omega arith) in omega (arith, ints)

side_scaled : (n : ℕ) (z : ℤ) → 0 < n → side_of (pos n *ℤ z) ≡ side_of z
side_scaled n (pos zero) h = let e : pos n *ℤ pos 0 ≡ pos 0 = omega (arith, ints) in ap side_of e
side_scaled n (pos (suc m)) h = left_by_sign _ (up_scaled n (pos (suc m)) h (omega (arith, ints)))
side_scaled n (negsuc m) h = right_by_sign _ (down_scaled n (negsuc m) h (omega (arith, ints)))

pub side_sheared : (n : ℕ) (s : GridSegment) (q : Place) → 0 < n → side_at (sheared n s) (sheared_place n q) ≡ side_at s q
side_sheared n s q h = ap side_of (height_sheared n s q) ∙ side_scaled n (side_number_at s q) h

cancel : (n m : ℕ) (x : ℤ) (y : ℤ) (a b : ℕ) → 0 < n → pos n *ℤ x +ℤ y ≡ pos ((n * a + b) * m) → y ≡ pos (b * m) → x ≡ pos (a * m)
cancel n m (pos x) y a b h e f = let g : n * x ≡ n * (a * m) = omega (arith, ints, e, f) in let k = same_by n x (a * m) h g in omega
    (arith, ints, k)
  where
    same_by : (n m k : ℕ) → 0 < n → n * m ≡ n * k → m ≡ k
    same_by n m k h e = grind arith
cancel n m (negsuc x) y a b h e f = let t = times 0 n 0 (suc x) h (omega arith) in absurd (omega (arith, ints, e, f))

at_unsheared : (n : ℕ) (q : Place) (p : GridPoint) → 0 < n → IsAtPoint (sheared_place n q) (sheared_point n p) → IsAtPoint q p
at_unsheared n q p h e = (cancel n q.w q.x q.y p.x p.y h e.0 e.1, e.1)

pub inside_sheared : (n : ℕ) (s : GridSegment) (q : Place) → 0 < n → IsBefore s.a s.b → s.a.y < n → HoldsInside s q
    → HoldsInside (sheared n s) (sheared_place n q)
inside_sheared n s q hn o l h = record {
  held = held_after_shear n s q o l h.held;
  not_a = λ e. h.not_a (at_unsheared n q s.a hn e);
  not_b = λ e. h.not_b (at_unsheared n q s.b hn e);
}

pub beside_sheared : (n : ℕ) (B : List GridSegment) (s : GridSegment) (d : Side) (p : Place) → 0 < n → AreInOrder B → IsBefore s.a s.b
    → s.a.y < n → IsBeside B s d p → IsBeside (map (sheared n) B) (sheared n s) d (sheared_place n p)
beside_sheared n B s d p hn o so l h = record {
  side = side_sheared n s p hn ∙ h.side;
  goal = sheared_place n h.goal;
  inside = inside_sheared n s h.goal hn so l h.inside;
  clear = λ i j k. subst (IsFree (map (sheared n) B)) (shear_blend n i j p h.goal)
      (free_sheared n B (blend i j p h.goal) o hn (h.clear i j k));
}

-- ---- the sweep of a realm
pub record IsRealmSweep (n : ℕ) (B : List GridSegment) (steps : List Step) (right : ℕ → ℕ) : Type 0 where
  pub realm : IsRealmBelow n B
  pub walk : Walk (length B) (λ i. sheared n (numbered B i)) None [] steps
  pub rights : HaveRights right steps

square_some : (n : ℕ) → 0 < n → 0 < n * n
square_some n h = let t = times 0 n 0 n h h in omega arith

pub sweep_of : (n : ℕ) (B : List GridSegment) (steps : List Step) (right : ℕ → ℕ) → IsRealmSweep n B steps right
    → IsSweep (map (sheared n) B) (length B) (λ i. sheared n (numbered B i)) (n * n) steps right
sweep_of n B steps right s = record {
  position = position n B s.realm;
  within = within n B s.realm;
  some = square_some n s.realm.some;
  walk = s.walk;
  rights = s.rights;
}

pub below_of : (n : ℕ) (B : List GridSegment) → IsRealmBelow n B → AreBelow n B
below_of n B r s m = (r.below s m).0

pub side_of_sweep : (n : ℕ) (B : List GridSegment) (i : ℕ) (d : Side) (p : Place) → IsRealmBelow n B → i < length B
    → IsBeside B (numbered B i) d p → IsBeside (map (sheared n) B) (sheared n (numbered B i)) d (sheared_place n p)
side_of_sweep n B i d p r h b = let m = numbered_in B i h in beside_sheared n B (numbered B i) d p r.some r.order (r.order (numbered B i) m)
    (r.below (numbered B i) m).0 b

pub free_beside : (B : List GridSegment) (s : GridSegment) (d : Side) (p : Place) → IsBeside B s d p → IsFree B p
free_beside B s d p h = subst (IsFree B) (blend_one p h.goal) (h.clear 1 0 (omega arith))

-- ---- two sides are in one class exactly where their labels are linked
pub one_class_by_labels : (n : ℕ) (B : List GridSegment) (steps : List Step) (right : ℕ → ℕ) (i j : ℕ) (d e : Side) (p q : Place)
    → IsRealmSweep n B steps right → i < length B → j < length B → IsSlanted d → IsSlanted e
    → IsBeside B (numbered B i) d p → IsBeside B (numbered B j) e q → AreLinked (links steps) (side_label right i d) (side_label right j e)
    → AreInOneClass B p q
one_class_by_labels n B steps right i j d e p q s hi hj di ej h k l =
    class_unsheared n B p q s.realm.order (below_of n B s.realm) s.realm.some (free_beside B (numbered B i) d p h)
    (free_beside B (numbered B j) e q k)
    (sides_of_one_class (map (sheared n) B) (length B) (λ i. sheared n (numbered B i)) (n * n) steps right i j d e (sheared_place n p)
    (sheared_place n q) (sweep_of n B steps right s) hi hj di ej
    (side_of_sweep n B i d p s.realm hi h) (side_of_sweep n B j e q s.realm hj k) l)

pub labels_by_class : (n : ℕ) (B : List GridSegment) (steps : List Step) (right : ℕ → ℕ) (i j : ℕ) (d e : Side) (p q : Place)
    → IsRealmSweep n B steps right → i < length B → j < length B → IsSlanted d → IsSlanted e
    → IsBeside B (numbered B i) d p → IsBeside B (numbered B j) e q → AreInOneClass B p q
    → AreLinked (links steps) (side_label right i d) (side_label right j e)
labels_by_class n B steps right i j d e p q s hi hj di ej h k c =
    labels_of_sides (map (sheared n) B) (length B) (λ i. sheared n (numbered B i)) (n * n) steps right i j d e (sheared_place n p)
    (sheared_place n q) (sweep_of n B steps right s) hi hj di ej
    (side_of_sweep n B i d p s.realm hi h) (side_of_sweep n B j e q s.realm hj k) (class_sheared n B p q s.realm.order s.realm.some c)

-- ---- the outer class
outer_itself : (B : List GridSegment) (p : Place) → IsLeftOfAll B p → IsOuter B p
outer_itself B p left = (p, left, itself_in_class B p (left_is_free B p left))

outside_sheared : (n : ℕ) (B : List GridSegment) → 0 < n → IsLeftOfAll (map (sheared n) B) (sheared_place n outside)
outside_sheared n B hn = record { real = omega arith; left = λ s m. omega (arith, ints, hn) }

pub outer_sheared : (n : ℕ) (B : List GridSegment) (p : Place) → AreInOrder B → 0 < n → IsOuter B p
    → IsOuter (map (sheared n) B) (sheared_place n p)
outer_sheared n B p o hn h = (
  sheared_place n outside,
  outside_sheared n B hn,
  class_sheared n B outside p o hn (outer_is_one B outside p (outer_itself B outside (outside_is_left B)) h),
)

pub outer_unsheared : (n : ℕ) (B : List GridSegment) (p : Place) → IsRealmBelow n B → IsFree B p
    → IsOuter (map (sheared n) B) (sheared_place n p) → IsOuter B p
outer_unsheared n B p r free h =
    let left = outside_is_left B in (
      outside,
      left,
      class_unsheared n B outside p r.order (below_of n B r) r.some (left_is_free B outside left) free
          (outer_is_one (map (sheared n) B) (sheared_place n outside) (sheared_place n p)
          (outer_itself (map (sheared n) B) (sheared_place n outside) (outside_sheared n B r.some)) h),
    )

pub outer_by_labels : (n : ℕ) (B : List GridSegment) (steps : List Step) (right : ℕ → ℕ) (i : ℕ) (d : Side) (p : Place)
    → IsRealmSweep n B steps right → i < length B → IsSlanted d → IsBeside B (numbered B i) d p
    → AreLinked (links steps) (side_label right i d) 0 → IsOuter B p
outer_by_labels n B steps right i d p s hi di h l =
    outer_unsheared n B p s.realm (free_beside B (numbered B i) d p h)
    (outer_side (map (sheared n) B) (length B) (λ i. sheared n (numbered B i)) (n * n) steps right i d (sheared_place n p)
    (sweep_of n B steps right s) hi di (side_of_sweep n B i d p s.realm hi h) l)

pub labels_by_outer : (n : ℕ) (B : List GridSegment) (steps : List Step) (right : ℕ → ℕ) (i : ℕ) (d : Side) (p : Place)
    → IsRealmSweep n B steps right → i < length B → IsSlanted d → IsBeside B (numbered B i) d p
    → IsOuter B p → AreLinked (links steps) (side_label right i d) 0
labels_by_outer n B steps right i d p s hi di h outer =
    label_of_outer (map (sheared n) B) (length B) (λ i. sheared n (numbered B i)) (n * n) steps right i d (sheared_place n p)
    (sweep_of n B steps right s) hi di (side_of_sweep n B i d p s.realm hi h) (outer_sheared n B p s.realm.order s.realm.some outer)
