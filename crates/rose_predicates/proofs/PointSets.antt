-- This file shows what points and lines have in common, and when one is inside another, by their points and ends.
use Rattle.std.proofs.Common.{◌≡◌, ◌↔◌, List, ◌∷◌, ◌++◌, All, Contains, sym, subst, arith, inl, inr}
use Rattle.std.specs.List.{Any}
use Rattle.std.proofs.lemmas.List.Elements.{Contains-append_cases, Contains-append_left, Contains-append_right}
use Rattle.grid_base.specs.Point.{GridPoint, IsBefore}
use Rattle.grid_base.specs.Segment.{GridSegment, IsSegmentBefore}
use Rattle.grid_base.specs.Plane.{Place, as_place}
use Rattle.grid_base.specs.Border.{AreNoded}
use Rattle.rose_values.specs.Border.{ArePointsAscending, AreSegmentsAscending}
use Rattle.grid_base.proofs.Orders.{IsBefore-asym}
use Rattle.rose_values.specs.Areas.{IsOnSome}
use Rattle.rose_values.specs.Operators.{HasEnds}
use Rattle.rose_values.specs.declared.geometry.Geometry.TheVariants.{P, L}
use Rattle.side_parity.specs.Middle.{middle}
use Rattle.side_parity.proofs.Each.{ordered_in}
use Rattle.side_parity.proofs.Pictures.{meet_noded}
use Rattle.rose_overlay.specs.Parting.{AreOrdered}
use Rattle.rose_overlay.proofs.LiesWithin.{middle_held, middle_off}
use Rattle.rose_overlay.proofs.Made.{with_one}
use Rattle.rose_overlay.proofs.Parted.{noded_part}
use Rattle.rose_overlay.proofs.Sorts.{not_both, one_list, there_or_not}
use Rattle.rose_predicates.specs.Predicates.{AreOutside, HaveSameSegments, IsInside, ShareAPoint}
use Rattle.rose_predicates.proofs.Truths.{each, of_each, some, of_some}
use Rattle.rose_predicates.proofs.GridPoints.{grid_place, at_itself, is_one_of, one_point, end_held, held_at_end, common_end}

-- ---- points
pub points_inside : (A B : List GridPoint) → All (Contains B) A ↔ IsInside (P A) (P B)
points_inside A B = (
  λ all q h. record { real = h.real; there = (h.there.0, of_each (Contains B) A h.there.0 all h.there.1, h.there.2) },
  λ inside. each (Contains B) A
      (λ p there.
      (let found = (inside (grid_place p) (is_one_of A p there)).there in
      subst (Contains B) (sym (one_point (grid_place p) p found.0 (omega arith) (at_itself p) found.2)) found.1)),
)

pub points_shared : (A B : List GridPoint) → Any (Contains B) A ↔ ShareAPoint (P A) (P B)
points_shared A B = (
  λ any. (let p = of_some (Contains B) A any in (grid_place p.0, is_one_of A p.0 p.1, is_one_of B p.0 p.2)),
  λ shared.
      (let first = shared.1.there in
      let second = shared.2.there in
      some (Contains B) A first.0 first.1
      (subst (Contains B) (one_point shared.0 second.0 first.0 shared.1.real second.2 first.2) second.1)),
)

pub points_equal : (A B : List GridPoint) → ArePointsAscending A → ArePointsAscending B
    → (A ≡ B) ↔ (IsInside (P A) (P B) × IsInside (P B) (P A))
points_equal A B up_a up_b = (
  λ same. (
    subst (λ (C : List GridPoint). IsInside (P A) (P C)) same (λ q p. p),
    subst (λ (C : List GridPoint). IsInside (P C) (P A)) same (λ q p. p),
  ),
  λ both. one_list IsBefore IsBefore-asym A B up_a up_b
      (λ p there. of_each (Contains B) A p ((points_inside A B).1 both.0) there)
      (λ p there. of_each (Contains A) B p ((points_inside B A).1 both.1) there),
)

-- ---- points that are inside no segment, and lines
pub points_on : (A : List GridPoint) (lines : List GridSegment) (vertices : List GridPoint) → AreOutside A lines → AreOrdered lines
    → HasEnds lines vertices → All (Contains vertices) A ↔ IsInside (P A) (L lines)
points_on A lines vertices outside ordered ends = (
  λ all q h.
      (let e = (ends h.there.0).0 (of_each (Contains vertices) A h.there.0 all h.there.1) in
      (e.0, e.1, end_held e.0 h.there.0 q (ordered_in lines e.0 ordered e.1) e.2 h.real h.there.2)),
  λ inside. each (Contains vertices) A
      (λ p there.
      (let on = inside (grid_place p) (is_one_of A p there) in
      (ends p).1 (on.0, on.1, held_at_end on.0 p (grid_place p) on.2 (at_itself p) (outside p on.0 there on.1)))),
)

pub points_touch : (A : List GridPoint) (lines : List GridSegment) (vertices : List GridPoint) → AreOutside A lines → AreOrdered lines
    → HasEnds lines vertices → Any (Contains vertices) A ↔ ShareAPoint (P A) (L lines)
points_touch A lines vertices outside ordered ends = (
  λ any.
      (let p = of_some (Contains vertices) A any in
      let e = (ends p.0).0 p.2 in (
        grid_place p.0,
        is_one_of A p.0 p.1,
        (e.0, e.1, end_held e.0 p.0 (grid_place p.0) (ordered_in lines e.0 ordered e.1) e.2 (is_one_of A p.0 p.1).real (at_itself p.0)),
      )),
  λ shared.
      (let at = shared.1.there in
      let on = shared.2 in
      some (Contains vertices) A at.0 at.1
      ((ends at.0).1 (on.0, on.1, held_at_end on.0 at.0 shared.0 on.2 at.2 (outside at.0 on.0 at.1 on.1)))),
)

-- ---- lines of a realm
pub noded_back : (A B : List GridSegment) → AreNoded (A ++ B) → AreNoded (B ++ A)
noded_back A B noded = noded_part (A ++ B) (B ++ A)
    (λ t c. elim (Contains-append_cases B A t c) [ inl k ↦ Contains-append_right A B t k | inr k ↦ Contains-append_left A B t k ]) noded

-- so are the second list and a segment of either
pub noded_second : (A B : List GridSegment) (s : GridSegment) → AreNoded (A ++ B) → Contains (A ++ B) s → AreNoded (s ∷ B)
noded_second A B s noded there = noded_part (A ++ B) (s ∷ B) (with_one (A ++ B) B s there (Contains-append_right A B)) noded

pub lines_inside : (A B : List GridSegment) → AreNoded (A ++ B) → AreOrdered A → All (Contains B) A ↔ IsInside (L A) (L B)
lines_inside A B noded ordered = (
  λ all q h. (h.0, of_each (Contains B) A h.0 all h.1, h.2),
  λ inside. each (Contains B) A (λ s there. elim (there_or_not s B) [
    | inl k ↦ k
    | inr absent ↦ absurd
        (middle_off B s (meet_noded (s ∷ B) (noded_second A B s noded (Contains-append_left A B s there)))
        (ordered_in A s ordered there) absent
        (inside (as_place (middle s)) (s, there, middle_held s (ordered_in A s ordered there))))
  ]),
)

-- lines have the same places where they have the same segments
pub lines_same : (A B : List GridSegment) → AreNoded (A ++ B) → AreOrdered A → AreOrdered B
    → (IsInside (L A) (L B) × IsInside (L B) (L A)) ↔ HaveSameSegments A B
lines_same A B noded ordered_a ordered_b = (
  λ both s. (
    of_each (Contains B) A s ((lines_inside A B noded ordered_a).1 both.0),
    of_each (Contains A) B s ((lines_inside B A (noded_back A B noded) ordered_b).1 both.1),
  ),
  λ same. (λ q h. (h.0, (same h.0).0 h.1, h.2), λ q h. (h.0, (same h.0).1 h.1, h.2)),
)

-- ascending lists with the same segments are one
pub one_by_segments : (A B : List GridSegment) → AreSegmentsAscending A → AreSegmentsAscending B → HaveSameSegments A B → A ≡ B
one_by_segments A B up_a up_b same = one_list IsSegmentBefore not_both A B up_a up_b (λ s. (same s).0) (λ s. (same s).1)

pub lines_equal : (A B : List GridSegment) → AreNoded (A ++ B) → AreOrdered A → AreOrdered B → AreSegmentsAscending A
    → AreSegmentsAscending B → (A ≡ B) ↔ (IsInside (L A) (L B) × IsInside (L B) (L A))
lines_equal A B noded ordered_a ordered_b up_a up_b = (
  λ same. (
    subst (λ (C : List GridSegment). IsInside (L A) (L C)) same (λ q p. p),
    subst (λ (C : List GridSegment). IsInside (L C) (L A)) same (λ q p. p),
  ),
  λ both. one_by_segments A B up_a up_b ((lines_same A B noded ordered_a ordered_b).0 both),
)

-- two lists of segments have a common place where they have a common end
pub share_ends : (A B : List GridSegment) (first second : List GridPoint) → AreNoded (A ++ B) → AreOrdered A → AreOrdered B
    → HasEnds A first → HasEnds B second → Any (Contains second) first ↔ ((q : Place) × IsOnSome A q × IsOnSome B q)
share_ends A B first second noded ordered_a ordered_b ends_a ends_b = (
  λ any.
      (let p = of_some (Contains second) first any in
      let a = (ends_a p.0).0 p.1 in
      let b = (ends_b p.0).0 p.2 in (
        grid_place p.0,
        (a.0, a.1, end_held a.0 p.0 (grid_place p.0) (ordered_in A a.0 ordered_a a.1) a.2 (omega arith) (at_itself p.0)),
        (b.0, b.1, end_held b.0 p.0 (grid_place p.0) (ordered_in B b.0 ordered_b b.1) b.2 (omega arith) (at_itself p.0)),
      )),
  λ shared.
      (let a = shared.1 in
      let b = shared.2 in
      let p = common_end (A ++ B) a.0 b.0 shared.0 noded (Contains-append_left A B a.0 a.1) (Contains-append_right A B b.0 b.1) a.2 b.2 in
      some (Contains second) first p.0 ((ends_a p.0).1 (a.0, a.1, p.1)) ((ends_b p.0).1 (b.0, b.1, p.2))),
)
