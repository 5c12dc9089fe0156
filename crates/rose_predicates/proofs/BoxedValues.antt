-- This file shows what the boxes of two values tell: where they lie apart, or beside each other, and where one lies in the other.
use Rattle.std.proofs.Common.{ℕ, ◌*◌, ◌≤◌, List, All, Contains, pos, ◌≤ℤ◌, refl, arith, inl, inr}
use Rattle.std.specs.List.{Any}
use Rattle.std.proofs.lemmas.Int.{ints}
use Rattle.grid_base.specs.Point.{GridPoint}
use Rattle.grid_base.specs.Segment.{GridSegment, IsEnd}
use Rattle.grid_base.specs.Plane.{Place, as_place, Holds}
use Rattle.grid_base.specs.Border.{IsEvenBorder}
use Rattle.rose_values.specs.Areas.{IsOnSome}
use Rattle.rose_values.specs.Border.{AreSegmentsAscending}
use Rattle.rose_values.specs.declared.geometry.Geometry.TheVariants.{P, L, R}
use Rattle.side_parity.specs.Middle.{middle}
use Rattle.side_parity.proofs.Each.{ordered_in}
use Rattle.border_boxes.specs.Boxes.{AreApart, AreBeside, HasPlace, HasPoint, HoldsAll, IsBoxOf, IsWithin, LiesIn}
use Rattle.border_boxes.specs.declared.boxes.BorderBox.{BorderBox}
use Rattle.border_boxes.proofs.BoxesApart.{none_in_both, none_inside}
use Rattle.border_boxes.proofs.OutsideBoxes.{free_off, interior_in_box, outer_off_inside, region_in_box}
use Rattle.border_boxes.proofs.PlacesInBoxes.{has_by_inside, has_or_not, has_point, held_in_box, in_order}
use Rattle.rose_overlay.specs.Parting.{AreOrdered}
use Rattle.rose_overlay.proofs.LiesWithin.{middle_held}
use Rattle.rose_overlay.proofs.Parted.{AreBorders}
use Rattle.rose_predicates.specs.Predicates.{AreasMeet, IsInside, IsShutIn, ReachesInto, ShareAPoint}
use Rattle.rose_predicates.proofs.GridPoints.{grid_place, at_itself, end_held, is_one_of}
use Rattle.rose_predicates.proofs.OuterWays.{closed_told, never_met}
use Rattle.rose_predicates.proofs.Truths.{each, some}

module _ (first second : BorderBox) (A B : List GridSegment) (a : IsBoxOf first A) (b : IsBoxOf second B) where
  -- ---- boxes apart, or beside each other
  pub no_place : AreApart first second → (q : Place) → IsOnSome A q → IsOnSome B q → ⊥
  no_place apart q on_a on_b =
      none_in_both first second q on_a.2.real apart (held_in_box first A q a.holds on_a) (held_in_box second B q b.holds on_b)

  -- the middle of a common segment is on both
  pub no_segment : AreApart first second → (s : GridSegment) → Contains A s → Contains B s → ⊥
  no_segment apart s in_a in_b =
      let held = middle_held s (in_order first A a.holds s in_a) in
      no_place apart (as_place (middle s)) (s, in_a, held) (s, in_b, held)

  pub no_reaching : IsEvenBorder B → AreBeside first second → ReachesInto (L A) (R B) → ⊥
  no_reaching even beside (q, on, inside) =
      none_inside first second q beside (held_in_box first A q a.holds on) (interior_in_box second B b.holds q even inside)

  pub no_common_area : IsEvenBorder A → IsEvenBorder B → AreBeside first second → AreasMeet (R A) (R B) → ⊥
  no_common_area even_a even_b beside (q, in_a, in_b) =
      none_inside first second q beside (has_by_inside first q (interior_in_box first A a.holds q even_a in_a))
      (interior_in_box second B b.holds q even_b in_b)

-- ---- points in a box
module _ (box : BorderBox) (A : List GridPoint) (B : List GridSegment) (b : IsBoxOf box B) where
  pub points_on_lines : IsInside (P A) (L B) → All (HasPoint box) A
  points_on_lines inside = each (HasPoint box) A
      (λ p there. has_point box p (grid_place p) (omega arith) (at_itself p)
      (held_in_box box B (grid_place p) b.holds (inside (grid_place p) (is_one_of A p there))))

  pub points_in_region : IsEvenBorder B → IsInside (P A) (R B) → All (HasPoint box) A
  points_in_region even inside = each (HasPoint box) A
      (λ p there. has_point box p (grid_place p) (omega arith) (at_itself p)
      (region_in_box box B b.holds (grid_place p) even (inside (grid_place p) (is_one_of A p there))))

  pub point_on_lines : ShareAPoint (P A) (L B) → Any (HasPoint box) A
  point_on_lines (q, one, on) =
      some (HasPoint box) A one.there.0 one.there.1
      (has_point box one.there.0 q one.real one.there.2 (held_in_box box B q b.holds on))

  pub point_of_region : IsEvenBorder B → ShareAPoint (P A) (R B) → Any (HasPoint box) A
  point_of_region even (q, one, point) =
      some (HasPoint box) A one.there.0 one.there.1
      (has_point box one.there.0 q one.real one.there.2 (region_in_box box B b.holds q even point))

-- ---- a box in another
at_least : (m n : ℕ) → pos (m * 1) ≤ℤ pos n → m ≤ n
at_least m n h = omega (arith, ints)

at_most : (m n : ℕ) → pos n ≤ℤ pos (m * 1) → n ≤ m
at_most m n h = omega (arith, ints)

-- a segment is in the box where its ends are
by_ends : (box : BorderBox) (A : List GridSegment) → AreOrdered A
    → ((s : GridSegment) (p : GridPoint) → Contains A s → IsEnd p s → HasPlace box (grid_place p)) → HoldsAll box A
by_ends box A ordered ends = each (IsWithin box) A (λ s there.
    (let at_a = ends s s.a there (inl refl) in
    let at_b = ends s s.b there (inr refl) in record {
      order = ordered_in A s ordered there;
      left = at_least box.left s.a.x at_a.from_left;
      right = at_most box.right s.b.x at_b.to_right;
      low = (at_least box.low s.a.y at_a.from_low, at_least box.low s.b.y at_b.from_low);
      high = (at_most box.high s.a.y at_a.to_high, at_most box.high s.b.y at_b.to_high);
    }))

its_end : (A : List GridSegment) (s : GridSegment) (p : GridPoint) → AreOrdered A → Contains A s → IsEnd p s → Holds s (grid_place p)
its_end A s p ordered there end = end_held s p (grid_place p) (ordered_in A s ordered there) end (omega arith) (at_itself p)

module _ (first second : BorderBox) (A B : List GridSegment) (a : IsBoxOf first A) (b : IsBoxOf second B) (ordered : AreOrdered A) where
  -- the ends of what is inside a region are in its box
  pub lines_lie_in : IsEvenBorder B → IsInside (L A) (R B) → LiesIn first second
  lines_lie_in even inside =
      a.least second (by_ends second A ordered (λ s p there end.
      region_in_box second B b.holds (grid_place p) even (inside (grid_place p) (s, there, its_end A s p ordered there end))))

  pub region_lies_in : IsEvenBorder B → IsInside (R A) (R B) → LiesIn first second
  region_lies_in even inside = lines_lie_in even (λ q on. inside q (inl on))

  -- an end that is off the box of B would be in its outer class
  pub shut_in_lies_in : AreBorders B A → AreSegmentsAscending A → IsShutIn (R B) (R A) → LiesIn first second
  shut_in_lies_in h up shut =
      a.least second (by_ends second A ordered (λ s p there end. elim (has_or_not second (grid_place p)) [
        | inl has ↦ has
        | inr off ↦
            (let free = free_off second B b.holds (grid_place p) (omega arith) off in
            absurd (never_met B A h up ((closed_told B A h up).1 shut) (grid_place p) s free
            (outer_off_inside second B b.holds (grid_place p) free (λ k. off (has_by_inside second (grid_place p) k))) there
            (its_end A s p ordered there end)))
      ]))
