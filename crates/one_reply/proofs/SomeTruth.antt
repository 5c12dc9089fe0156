-- This file shows that every predicate holds or doesn't of the values that it takes.
use Rattle.std.proofs.Common.{◌≡◌, ◌⊎◌, ◌↔◌, ◌==◌, false, true, not, List, [], ◌++◌, length, All, AllPairs, Contains, Some, refl, inl, inr}
use Rattle.std.proofs.lemmas.Bool.{cases_eq}
use Rattle.std.proofs.lemmas.List.Elements.{All-contains, Contains-append_cases, Contains-append_left, Contains-append_right}
use Rattle.grid_base.specs.Border.{AreNoded, IsEvenBorder}
use Rattle.grid_base.specs.Point.{GridPoint, IsBefore}
use Rattle.grid_base.specs.Segment.{GridSegment, IsSegmentBefore}
use Rattle.grid_base.specs.declared.kinds.Kind.TheVariants as kinds
use Rattle.rose_values.specs.declared.geometry.Geometry.{Geometry}
use Rattle.rose_values.specs.declared.geometry.Geometry.TheVariants.{P, L, R}
use Rattle.rose_values.specs.declared.operators.Op.TheVariants.{Intersection, Minus}
use Rattle.rose_values.specs.declared.operators.Pred.{Pred}
use Rattle.rose_values.specs.declared.operators.Pred.TheVariants as pred
use Rattle.rose_values.specs.Geometry.{kind_of}
use Rattle.rose_values.specs.Kinds.{takes_kinds}
use Rattle.rose_values.specs.Operators.{segments_of, HasWithin}
use Rattle.rose_overlay.specs.Parting.{AreOrdered}
use Rattle.rose_overlay.proofs.Parted.{AreBorders}
use Rattle.rose_overlay.proofs.Sorts.{there_or_not}
use Rattle.rose_predicates.specs.Predicates.{points_of, AreOutside, IsTrueOf, IsInside, ShareAPoint, ShareASegment, ShareABorderPoint}
use Rattle.rose_predicates.specs.Predicates.{AreasMeet, ReachesInto}
use Rattle.rose_predicates.proofs.Truths.{each, some_told}
use Rattle.rose_predicates.proofs.PointSets.{points_inside, points_shared, points_on, points_touch, noded_back, lines_inside, share_ends}
use Rattle.rose_predicates.proofs.PointsAndRegions.{IsEndOrOdd, points_in_region, points_touch_region}
use Rattle.rose_predicates.proofs.LinesAndRegions as lines
use Rattle.rose_predicates.proofs.RegionSets as regions
use Rattle.one_reply.proofs.Decisions.{Decided, same_decided, not_decided, both_decided, either_decided, test_decided}
use Rattle.one_reply.proofs.Decisions.{all_decided, any_decided, point_there}
use Rattle.one_reply.proofs.SomeMade.{some_ends, some_within, some_combination, are_borders, ordered_first, ordered_second}
use Rattle.one_reply.proofs.SomeEnclosures.{AreOnGrid, shuts_in_or_not}
use Rattle.one_reply.proofs.SomeOperands.{AreFit, AreAllOnGrid}

-- one claim is the other, read from behind
back : {P Q : Type 0} → P ↔ Q → Q ↔ P
back same = (same.1, same.0)

-- the segments of both in another order
ordered_back : (A B : List GridSegment) → All (λ s. IsBefore s.a s.b) (A ++ B) → All (λ s. IsBefore s.a s.b) (B ++ A)
ordered_back A B ordered = each (λ s. IsBefore s.a s.b) (B ++ A) (λ s there.
    All-contains (λ t. IsBefore t.a t.b) (A ++ B) s ordered (elim (Contains-append_cases B A s there) [
      | inl second ↦ Contains-append_right A B s second
      | inr first ↦ Contains-append_left A B s first
    ]))

-- ---- common segments, and points of both borders
-- some segment of the first is one of the second
share_segment : (A B : List GridSegment) → Decided ((s : GridSegment) × Contains A s × Contains B s)
share_segment A B = same_decided (some_told (Contains B) A) (any_decided (Contains B) A (λ s there. there_or_not s B))

-- some end of the first is one of the second
share_vertex : (A B : List GridSegment) → AreNoded (A ++ B) → All (λ s. IsBefore s.a s.b) (A ++ B) → Decided (ShareAPoint (L A) (L B))
share_vertex A B noded ordered =
    let (first, up, of_A) = some_ends A in
    let (second, also, of_B) = some_ends B in
    same_decided (share_ends A B first second noded (ordered_first A B ordered) (ordered_second A B ordered) of_A of_B)
    (any_decided (Contains second) first (λ p there. point_there second p))

-- each segment of the first is one of the second
on_lines : (A B : List GridSegment) → AreNoded (A ++ B) → All (λ s. IsBefore s.a s.b) (A ++ B) → Decided (IsInside (L A) (L B))
on_lines A B noded ordered =
    same_decided (lines_inside A B noded (ordered_first A B ordered)) (all_decided (Contains B) A (λ s there. there_or_not s B))

-- ---- points
-- each point of the first is one of the second, or some is
points_in : (A B : List GridPoint) → Decided (IsInside (P A) (P B))
points_in A B = same_decided (points_inside A B) (all_decided (Contains B) A (λ p there. point_there B p))

points_common : (A B : List GridPoint) → Decided (ShareAPoint (P A) (P B))
points_common A B = same_decided (points_shared A B) (any_decided (Contains B) A (λ p there. point_there B p))

module _ (A : List GridPoint) (B : List GridSegment) (outside : AreOutside A B) (ordered : AreOrdered B) where
  on_segments : Decided (IsInside (P A) (L B))
  on_segments =
      let (ends, up, are) = some_ends B in
      same_decided (points_on A B ends outside ordered are) (all_decided (Contains ends) A (λ p there. point_there ends p))

  touch_segments : Decided (ShareAPoint (P A) (L B))
  touch_segments =
      let (ends, up, are) = some_ends B in
      same_decided (points_touch A B ends outside ordered are) (any_decided (Contains ends) A (λ p there. point_there ends p))

  end_or_odd : (ends : List GridPoint) (p : GridPoint) → Decided (IsEndOrOdd B ends p)
  end_or_odd ends p = either_decided (point_there ends p) (cases_eq _ 1)

  in_region : Decided (IsInside (P A) (R B))
  in_region =
      let (ends, up, are) = some_ends B in
      same_decided (points_in_region A B ends outside ordered are) (all_decided (IsEndOrOdd B ends) A (λ p there. end_or_odd ends p))

  touch_region : Decided (ShareAPoint (P A) (R B))
  touch_region =
      let (ends, up, are) = some_ends B in
      same_decided (points_touch_region A B ends outside ordered are) (any_decided (IsEndOrOdd B ends) A (λ p there. end_or_odd ends p))

-- ---- lines and a region
module _ (A B : List GridSegment) (noded : AreNoded (A ++ B)) (ordered : All (λ s. IsBefore s.a s.b) (A ++ B)) (even : IsEvenBorder B) where
  are_laid : lines.AreLaid A B
  are_laid = record {
    noded = noded;
    even = even;
    ordered_lines = ordered_first A B ordered;
    ordered_border = ordered_second A B ordered;
  }

  lying : (C : List GridSegment) × AllPairs IsSegmentBefore C × HasWithin B A C
  lying = some_within B A (noded_back A B noded) (ordered_back A B ordered) even

  lines_in : Decided (IsInside (L A) (R B))
  lines_in =
      let (C, up, are) = lying in
      same_decided (lines.lines_in_region A B C are) (all_decided (Contains C) A (λ s there. there_or_not s C))

  reach_into : Decided (ReachesInto (L A) (R B))
  reach_into =
      let (C, up, are) = lying in
      same_decided (lines.reach_told A B C are_laid are) (not_decided (all_decided (Contains B) C (λ s there. there_or_not s B)))

  touch : Decided (ShareAPoint (L A) (R B))
  touch = same_decided (back (lines.shared_told A B are_laid)) (either_decided reach_into (share_vertex A B noded ordered))

-- ---- regions
module _ (A B : List GridSegment) (h : AreBorders A B) where
  inside : AllPairs IsSegmentBefore A → Decided (IsInside (R A) (R B))
  inside up =
      let (C, up_C, made) = some_combination Minus A B h in
      same_decided (regions.inside_told A B h up) (same_decided (regions.empty_made Minus A B C h up_C made) (test_decided (length C == 0)))

  areas : Decided (AreasMeet (R A) (R B))
  areas =
      let (C, up_C, made) = some_combination Intersection A B h in
      same_decided (regions.areas_meet A B)
      (same_decided (regions.filled_made Intersection A B C h up_C made) (test_decided (not (length C == 0))))

  common : AllPairs IsSegmentBefore A → AllPairs IsSegmentBefore B → Decided (ShareABorderPoint (R A) (R B))
      → Decided (ShareAPoint (R A) (R B))
  common up up_B vertex = same_decided (back (regions.shared_told A B h up up_B)) (either_decided areas vertex)

-- ---- by kinds
apart : (A : List GridPoint) (B : List GridSegment) → AreOutside (A ++ []) B → AreOutside A B
apart A B outside p s in_A in_B = outside p s (Contains-append_left A [] p in_A) in_B

-- two regions
module _ (A B : List GridSegment) (fit : AreFit (R A) (Some (R B))) where
  both : AreBorders A B
  both = are_borders A B fit.noded fit.ordered fit.first_even fit.second_even

  other : AreBorders B A
  other = are_borders B A (noded_back A B fit.noded) (ordered_back A B fit.ordered) fit.second_even fit.first_even

  within : Decided (IsInside (R A) (R B))
  within = inside A B both fit.first_ascends

  around : Decided (IsInside (R B) (R A))
  around = inside B A other fit.second_ascends

  meet : Decided (AreasMeet (R A) (R B))
  meet = areas A B both

  vertex : Decided (ShareABorderPoint (R A) (R B))
  vertex = share_vertex A B fit.noded fit.ordered

  of_both : Decided (ShareAPoint (R A) (R B))
  of_both = common A B both fit.first_ascends fit.second_ascends vertex

  segment : Decided (ShareASegment (R A) (R B))
  segment = share_segment A B

-- the predicate doesn't take values of these kinds, or it holds of them or doesn't
abbrev pub IsToldOf : Pred → Geometry → Geometry → Type 0
IsToldOf p a b =
    (takes_kinds p (kind_of a) (kind_of b) ≡ false) ⊎ ((takes_kinds p (kind_of a) (kind_of b) ≡ true) × Decided (IsTrueOf p a b))

-- `encloses` asks for segments on the grid, and the other predicates for nothing
abbrev pub MayTell : Pred → Geometry → Geometry → Type 0
MayTell pred.Encloses a b = AreAllOnGrid a (Some b)
MayTell p a b = Unit {0}

on_grid : (A B : List GridSegment) → AreAllOnGrid (R A) (Some (R B)) → AreFit (R A) (Some (R B)) → AreOnGrid A B
on_grid A B grid fit = record {
  noded = fit.noded;
  first_ascends = fit.first_ascends;
  second_ascends = fit.second_ascends;
  second_even = fit.second_even;
  grid = grid;
}

of_regions : (p : Pred) (A B : List GridSegment) → MayTell p (R A) (R B) → AreFit (R A) (Some (R B)) → IsToldOf p (R A) (R B)
of_regions pred.Encloses A B grid fit =
    inr (refl, both_decided (not_decided (meet A B fit)) (shuts_in_or_not A B (on_grid A B grid fit)))
of_regions pred.Equal A B may fit = inr (refl, both_decided (within A B fit) (around A B fit))
of_regions pred.Inside A B may fit = inr (refl, within A B fit)
of_regions pred.EdgeInside A B may fit = inr (refl, both_decided (within A B fit) (not_decided (segment A B fit)))
of_regions pred.VertexInside A B may fit = inr (refl, both_decided (within A B fit) (not_decided (vertex A B fit)))
of_regions pred.AreaDisjoint A B may fit = inr (refl, not_decided (meet A B fit))
of_regions pred.EdgeDisjoint A B may fit =
    inr (refl, both_decided (not_decided (meet A B fit)) (not_decided (segment A B fit)))
of_regions pred.Disjoint A B may fit = inr (refl, not_decided (of_both A B fit))
of_regions pred.Intersects A B may fit = inr (refl, meet A B fit)
of_regions pred.Meets A B may fit =
    inr (refl, both_decided (both_decided (not_decided (meet A B fit)) (not_decided (segment A B fit))) (of_both A B fit))
of_regions pred.Adjacent A B may fit = inr (refl, both_decided (not_decided (meet A B fit)) (segment A B fit))
of_regions pred.BorderInCommon A B may fit = inr (refl, segment A B fit)
of_regions pred.OnBorderOf A B may fit = inl refl

of_lines_and_region : (p : Pred) (A B : List GridSegment) → AreFit (L A) (Some (R B)) → IsToldOf p (L A) (R B)
of_lines_and_region pred.Inside A B fit = inr (refl, lines_in A B fit.noded fit.ordered fit.second_even)
of_lines_and_region pred.Disjoint A B fit = inr (refl, not_decided (touch A B fit.noded fit.ordered fit.second_even))
of_lines_and_region pred.Intersects A B fit = inr (refl, reach_into A B fit.noded fit.ordered fit.second_even)
of_lines_and_region pred.Meets A B fit = inr (
  refl,
  both_decided (touch A B fit.noded fit.ordered fit.second_even)
      (not_decided (reach_into A B fit.noded fit.ordered fit.second_even)),
)
of_lines_and_region pred.OnBorderOf A B fit = inr (refl, on_lines A B fit.noded fit.ordered)
of_lines_and_region pred.BorderInCommon A B fit = inr (refl, share_segment A B)
of_lines_and_region _ A B fit = inl refl

of_lines : (p : Pred) (A B : List GridSegment) → AreFit (L A) (Some (L B)) → IsToldOf p (L A) (L B)
of_lines pred.Equal A B fit = inr (
  refl,
  both_decided (on_lines A B fit.noded fit.ordered) (on_lines B A (noded_back A B fit.noded) (ordered_back A B fit.ordered)),
)
of_lines pred.Disjoint A B fit = inr (refl, not_decided (share_vertex A B fit.noded fit.ordered))
of_lines pred.Intersects A B fit = inr (refl, share_vertex A B fit.noded fit.ordered)
of_lines _ A B fit = inl refl

of_points_and_region : (p : Pred) (A : List GridPoint) (B : List GridSegment) → AreOutside A B → AreOrdered B → IsToldOf p (P A) (R B)
of_points_and_region pred.Inside A B outside ordered = inr (refl, in_region A B outside ordered)
of_points_and_region pred.Disjoint A B outside ordered = inr (refl, not_decided (touch_region A B outside ordered))
of_points_and_region pred.OnBorderOf A B outside ordered = inr (refl, on_segments A B outside ordered)
of_points_and_region _ A B outside ordered = inl refl

of_points_and_lines : (p : Pred) (A : List GridPoint) (B : List GridSegment) → AreOutside A B → AreOrdered B → IsToldOf p (P A) (L B)
of_points_and_lines pred.Inside A B outside ordered = inr (refl, on_segments A B outside ordered)
of_points_and_lines pred.Disjoint A B outside ordered = inr (refl, not_decided (touch_segments A B outside ordered))
of_points_and_lines _ A B outside ordered = inl refl

of_points : (p : Pred) (A B : List GridPoint) → IsToldOf p (P A) (P B)
of_points pred.Equal A B = inr (refl, both_decided (points_in A B) (points_in B A))
of_points pred.Disjoint A B = inr (refl, not_decided (points_common A B))
of_points _ A B = inl refl

-- no predicate takes points behind lines or behind a region, or lines behind a region
lines_and_points : (p : Pred) → takes_kinds p kinds.Lines kinds.Points ≡ false
lines_and_points pred.Equal = refl
lines_and_points _ = refl

region_and_points : (p : Pred) → takes_kinds p kinds.Regions kinds.Points ≡ false
region_and_points pred.Equal = refl
region_and_points _ = refl

region_and_lines : (p : Pred) → takes_kinds p kinds.Regions kinds.Lines ≡ false
region_and_lines pred.Equal = refl
region_and_lines _ = refl

-- by the table of predicates
pub some_truth : (p : Pred) (a b : Geometry) → MayTell p a b → AreFit a (Some b)
    → AreOutside (points_of a ++ points_of b) (segments_of a ++ segments_of b) → IsToldOf p a b
some_truth p (P A) (P B) may fit outside = of_points p A B
some_truth p (P A) (L B) may fit outside = of_points_and_lines p A B (apart A B outside) (ordered_second [] B fit.ordered)
some_truth p (P A) (R B) may fit outside = of_points_and_region p A B (apart A B outside) (ordered_second [] B fit.ordered)
some_truth p (L A) (L B) may fit outside = of_lines p A B fit
some_truth p (L A) (R B) may fit outside = of_lines_and_region p A B fit
some_truth p (R A) (R B) may fit outside = of_regions p A B may fit
some_truth p (L A) (P B) may fit outside = inl (lines_and_points p)
some_truth p (R A) (P B) may fit outside = inl (region_and_points p)
some_truth p (R A) (L B) may fit outside = inl (region_and_lines p)
