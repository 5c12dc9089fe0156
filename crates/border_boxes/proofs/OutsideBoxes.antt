-- This file shows that free places that aren't strictly inside the box of a border are outer, and so not odd.
use Rattle.std.proofs.Common.{ℕ, zero, suc, ◌+◌, ◌*◌, ◌<◌, List, ℤ, pos, negsuc, ◌<ℤ◌, ◌≤ℤ◌, inl, inr, arith}
use Rattle.std.proofs.lemmas.Int.{ints}
use borrow.Author.Differences.{up, down}
use Rattle.grid_base.specs.Segment.{GridSegment}
use Rattle.grid_base.specs.Plane.{Place, IsFree, IsFreeWay, blend}
use Rattle.grid_base.specs.Border.{IsEvenBorder}
use Rattle.grid_base.proofs.Signs.{not_both}
use Rattle.grid_base.proofs.Turns.{times, times_le}
use Rattle.rose_values.specs.Areas.{IsInteriorPoint, IsRegionPoint}
use Rattle.plane_classes.specs.Classes.{IsLeftOfAll, IsOuter}
use Rattle.plane_classes.proofs.Blends.{weighed}
use Rattle.plane_classes.proofs.Cuts.{one_class_by_way}
use Rattle.plane_classes.proofs.AlongSegment.{some_weight}
use Rattle.plane_classes.proofs.Multiples.{held_scaled}
use Rattle.plane_classes.proofs.ClassLemmas.{itself_in_class}
use Rattle.plane_classes.proofs.Outer.{left_is_free, outer_goes_on, outer_is_even}
use Rattle.border_boxes.specs.Boxes.{HasPlace, HasPlaceInside, HoldsAll}
use Rattle.border_boxes.specs.declared.boxes.BorderBox.{BorderBox}
use Rattle.border_boxes.proofs.PlacesInBoxes.{IsOffSide, LeftOf, RightOf, Below, Above}
use Rattle.border_boxes.proofs.PlacesInBoxes.{has_by_inside, has_or_not, held_in_box, in_order, inside_or_off}

-- ---- weighed numbers, the first of which weighs something and is past n
above_blend : (n i j v w : ℕ) (y z : ℤ) → 0 < i → pos (n * v) <ℤ y → pos (n * w) ≤ℤ z → pos (n * (i * v + j * w)) <ℤ (weighed i j y z)
above_blend n i j v w y z h k l =
    let t = times 0 i (n * v + down y) (up y) h (omega (arith, ints)) in
    let u = times_le 0 j (n * w + down z) (up z) (omega arith) (omega (arith, ints)) in
    omega (arith, ints)

below_blend : (n i j v w : ℕ) (y z : ℤ) → 0 < i → y <ℤ pos (n * v) → z ≤ℤ pos (n * w) → (weighed i j y z) <ℤ pos (n * (i * v + j * w))
below_blend n i j v w y z h k l =
    let t = times 0 i (up y) (n * v + down y) h (omega (arith, ints)) in
    let u = times_le 0 j (up z) (n * w + down z) (omega arith) (omega (arith, ints)) in
    omega (arith, ints)

at_least_by : (z : ℤ) (n : ℕ) → pos n <ℤ z → pos n ≤ℤ z
at_least_by z n h = omega (arith, ints)

at_most_by : (z : ℤ) (n : ℕ) → z <ℤ pos n → z ≤ℤ pos n
at_most_by z n h = omega (arith, ints)

below_all : (n : ℕ) → negsuc 0 <ℤ pos n
below_all n = omega (arith, ints)

above_it : (n : ℕ) → pos n <ℤ pos (suc n)
above_it n = omega (arith, ints)

-- ---- places that ways to q begin at
-- left of the grid, in the row of q
abbrev far_left : Place → Place
far_left q = record { x = negsuc 0; y = q.y; w = q.w }

-- below the grid, in the column of q
abbrev under : Place → Place
under q = record { x = q.x; y = negsuc 0; w = q.w }

-- above the box, in the column of q
abbrev over : BorderBox → Place → Place
over box q = record { x = q.x; y = pos (suc (box.high * q.w)); w = q.w }

-- above the box, and right of it
abbrev above_right : BorderBox → Place → Place
above_right box q = record { x = pos (suc (box.right * q.w)); y = pos (suc (box.high * q.w)); w = q.w }

-- ---- ways that end at q, and are off the box before
module _ (box : BorderBox) (B : List GridSegment) (within : HoldsAll box B) where
  pub free_off : (q : Place) → 0 < q.w → (HasPlace box q → ⊥) → IsFree B q
  free_off q real off = record { real = real; apart = λ s there held. off (held_in_box box B q within (s, there, held)) }

  way_to : (p q : Place) → 0 < p.w → IsFree B q → ((i j : ℕ) → 0 < i → HasPlace box (blend i j p q) → ⊥) → IsFreeWay B p q
  way_to p q real free off zero j some = record {
    real = some_weight 0 j p.w q.w some real free.real;
    apart = λ s there held. free.apart s there (held_scaled s j p q (omega (arith, some)) held);
  }
  way_to p q real free off (suc i) j some =
      free_off (blend (suc i) j p q) (some_weight (suc i) j p.w q.w some real free.real) (off (suc i) j (omega arith))

  -- from an outer place
  by_way : (p q : Place) → IsOuter B p → 0 < p.w → IsFree B q → ((i j : ℕ) → 0 < i → HasPlace box (blend i j p q) → ⊥) → IsOuter B q
  by_way p q outer real free off = outer_goes_on B p q outer (one_class_by_way B p q (way_to p q real free off))

  far_outer : (q : Place) → 0 < q.w → IsOuter B (far_left q)
  far_outer q real = (far_left q, left, itself_in_class B (far_left q) (left_is_free B (far_left q) left))
    where
      left : IsLeftOfAll B (far_left q)
      left = record { real = real; left = λ s there. below_all (s.a.x * q.w) }

  -- in a row above the box, or below it, the way to the left is free
  above_outer : (q : Place) → 0 < q.w → pos (box.high * q.w) <ℤ q.y → IsOuter B q
  above_outer q real h =
      by_way (far_left q) q (far_outer q real) real (free_off q real (λ k. not_both _ _ h k.to_high))
      (λ i j some k. not_both _ _
      (above_blend box.high i j q.w q.w q.y q.y some h (at_least_by q.y (box.high * q.w) h)) k.to_high)

  below_outer : (q : Place) → 0 < q.w → q.y <ℤ pos (box.low * q.w) → IsOuter B q
  below_outer q real h =
      by_way (far_left q) q (far_outer q real) real (free_off q real (λ k. not_both _ _ h k.from_low))
      (λ i j some k. not_both _ _
      (below_blend box.low i j q.w q.w q.y q.y some h (at_most_by q.y (box.low * q.w) h)) k.from_low)

  -- a step outward from q is free
  off_is_outer : (q : Place) → IsFree B q → IsOffSide box q → IsOuter B q
  off_is_outer q free (LeftOf h) =
      by_way (far_left q) q (far_outer q free.real) free.real free
      (λ i j some k. not_both _ _
      (below_blend box.left i j q.w q.w (negsuc 0) q.x some (below_all (box.left * q.w)) h) k.from_left)
  off_is_outer q free (RightOf h) =
      by_way (above_right box q) q (above_outer (above_right box q) free.real (above_it (box.high * q.w))) free.real free
      (λ i j some k. not_both _ _
      (above_blend box.right i j q.w q.w (above_right box q).x q.x some (above_it (box.right * q.w)) h) k.to_right)
  off_is_outer q free (Below h) =
      by_way (under q) q (below_outer (under q) free.real (below_all (box.low * q.w))) free.real free
      (λ i j some k. not_both _ _
      (below_blend box.low i j q.w q.w (negsuc 0) q.y some (below_all (box.low * q.w)) h) k.from_low)
  off_is_outer q free (Above h) =
      by_way (over box q) q (above_outer (over box q) free.real (above_it (box.high * q.w))) free.real free
      (λ i j some k. not_both _ _
      (above_blend box.high i j q.w q.w (over box q).y q.y some (above_it (box.high * q.w)) h) k.to_high)

  pub outer_off_inside : (q : Place) → IsFree B q → (HasPlaceInside box q → ⊥) → IsOuter B q
  outer_off_inside q free off = elim (inside_or_off box q) [ inl h ↦ absurd (off h) | inr side ↦ off_is_outer q free side ]

  -- ---- the points of a region
  pub interior_in_box : (q : Place) → IsEvenBorder B → IsInteriorPoint B q → HasPlaceInside box q
  interior_in_box q even (free, odd) = elim (inside_or_off box q) [
    | inl h ↦ h
    | inr side ↦ absurd (outer_is_even B (in_order box B within) even q (off_is_outer q free side) odd)
  ]

  pub region_in_box : (q : Place) → IsEvenBorder B → IsRegionPoint B q → HasPlace box q
  region_in_box q even (inl on) = held_in_box box B q within on
  region_in_box q even (inr odd) = elim (has_or_not box q) [
    | inl h ↦ h
    | inr off ↦
        (let free = free_off q odd.0 off in has_by_inside box q (interior_in_box q even (free, odd.1)))
  ]
