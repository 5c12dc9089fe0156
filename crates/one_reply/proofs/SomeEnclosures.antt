-- This file shows what class numbers decide: whether a place is outer, and whether a border shuts in the area of another.
use Rattle.std.proofs.Common.{◌≡◌, ◌⊎◌, ◌↔◌, ℕ, zero, suc, ◌<◌, ◌≤◌, List, [], ◌∷◌, ◌++◌, length, All, AllPairs, Contains}
use Rattle.std.proofs.Common.{refl, subst, inl, inr, arith}
use Rattle.std.proofs.lemmas.Bool.{cases_eq}
use Rattle.std.proofs.lemmas.List.Elements.{All-contains, Contains-append_cases, Contains-append_left, Contains-append_right}
use Rattle.grid_base.specs.Border.{AreNoded, IsEvenBorder}
use Rattle.grid_base.specs.Odd.{Odd}
use Rattle.grid_base.specs.Plane.{Place, IsFree}
use Rattle.grid_base.specs.Segment.{GridSegment, IsSegmentBefore}
use Rattle.grid_base.specs.Sides.{Side, Left, On, Right}
use Rattle.grid_base.proofs.Elements.{Contains-here, Contains-later, Contains-cases, Contains-nil}
use Rattle.grid_base.proofs.Signs.{left_off, right_off}
use Rattle.segment_lists.specs.OnGrid.{IsOnGrid}
use Rattle.segment_lists.proofs.Noding.{noded_part}
use Rattle.rose_values.specs.Areas.{IsInteriorPoint}
use Rattle.plane_classes.specs.Classes.{Joins, AreInOneClass, IsOuter}
use Rattle.plane_classes.proofs.Blends.{blend_one}
use Rattle.plane_classes.proofs.ClassLemmas.{one_class_back, one_class_joined}
use Rattle.plane_classes.proofs.Counts.{odd_in_class}
use Rattle.plane_classes.proofs.FewerSegments.{IsPart, free_of_part, class_of_part}
use Rattle.plane_classes.proofs.Outer.{outer_goes_on, outer_is_even}
use Rattle.plane_classes.proofs.Ways.{AreInOrder}
use Rattle.plane_cells.specs.ClassNumbers.{number_at, LiesBeside, AreClassNumbers}
use Rattle.plane_cells.specs.Numbered.{numbered}
use Rattle.plane_cells.specs.Sheared.{AreOfRealm}
use Rattle.plane_cells.specs.declared.classes.SideClasses.{SideClasses}
use Rattle.plane_cells.proofs.ShearedSides.{free_beside}
use Rattle.rose_predicates.proofs.Truths.{each}
use Rattle.one_reply.proofs.Decisions.{Decided, same_decided, not_decided, both_decided, all_decided}
use Rattle.one_reply.proofs.Listings.{listed_segments}
use Rattle.one_reply.proofs.OneFace.{outer_of_part}
use Rattle.one_reply.proofs.SomeClassNumbers.{HasClassNumbers, some_numbers, border_of_realm}

-- ---- places
-- a place off the border is outer where the class that it is in has the number 0
pub outer_or_not : (B : List GridSegment) (N : List SideClasses) → AreClassNumbers B N → (q : Place) → IsFree B q → Decided (IsOuter B q)
outer_or_not B N are q free = elim (are.each_class q free) [
  | inl outer ↦ inl outer
  | inr (i, d, p, lies, one) ↦ same_decided (
    λ zero_is. outer_goes_on B p q ((are.outer i d p lies).0 zero_is) (one_class_back B q p one),
    λ outer. (are.outer i d p lies).1 (outer_goes_on B q p outer one),
  ) (cases_eq (number_at N i d) 0)
]

-- what is in one class with a place is off the border
class_is_free : (B : List GridSegment) (q p : Place) (over : List Place) → Joins B q over p → IsFree B q
class_is_free B q p [] joins = subst (IsFree B) (blend_one q p) (joins.no_segment_between 1 0 (omega arith))
class_is_free B q p (r ∷ over) joins = subst (IsFree B) (blend_one q r) (joins.0.no_segment_between 1 0 (omega arith))

outer_is_free : (B : List GridSegment) (q : Place) → IsOuter B q → IsFree B q
outer_is_free B q (p, left, one) = let (over, joins) = one_class_back B p q one in class_is_free B q p over joins

-- ---- a place for each side
-- the places are off the border, and for each side of the first k segments one is in its class
record AreSamples (B : List GridSegment) (k : ℕ) (places : List Place) : Type 0 where
  free : (p : Place) → Contains places p → IsFree B p
  by_side : (i : ℕ) (d : Side) (q : Place) → i < k → LiesBeside B i d q → (p : Place) × Contains places p × AreInOneClass B q p

module _ (B : List GridSegment) (N : List SideClasses) (are : AreClassNumbers B N) where
  -- with the two sides of one segment more
  one_more : (k : ℕ) (places : List Place) → k < length B → AreSamples B k places → (more : List Place) × AreSamples B (suc k) more
  one_more k places within so_far =
      let (p, on_left) = are.some k Left within left_off in
      let (q, on_right) = are.some k Right within right_off in (
        p ∷ q ∷ places,
        record {
          free = λ r there. elim (Contains-cases p (q ∷ places) r there) [
            | inl first ↦ subst (IsFree B) first (free_beside B (numbered B k) Left p on_left.beside)
            | inr rest ↦ elim (Contains-cases q places r rest) [
              | inl second ↦ subst (IsFree B) second (free_beside B (numbered B k) Right q on_right.beside)
              | inr old ↦ so_far.free r old
            ]
          ];
          by_side = λ i d r early lies. elim (this_or_earlier i early) [
            | inl this ↦ of_this p q on_left on_right d r (subst (λ n. LiesBeside B n d r) this lies)
            | inr earlier ↦
                let (s, there, one) = so_far.by_side i d r earlier lies in
                (s, Contains-later p (q ∷ places) s (Contains-later q places s there), one)
          ];
        },
      )
    where
      this_or_earlier : (i : ℕ) → i < suc k → (i ≡ k) ⊎ (i < k)
      this_or_earlier i early = grind arith

      of_this : (p q : Place) → LiesBeside B k Left p → LiesBeside B k Right q → (d : Side) (r : Place) → LiesBeside B k d r
          → (s : Place) × Contains (p ∷ q ∷ places) s × AreInOneClass B r s
      of_this p q on_left on_right Left r lies =
          (p, Contains-here p (q ∷ places), (are.one_class k k Left Left r p lies on_left).0 refl)
      of_this p q on_left on_right On r lies = absurd (lies.sided refl)
      of_this p q on_left on_right Right r lies =
          (q, Contains-later p (q ∷ places) q (Contains-here q places), (are.one_class k k Right Right r q lies on_right).0 refl)

  samples_below : (k : ℕ) → k ≤ length B → (places : List Place) × AreSamples B k places
  samples_below zero within = (
    [],
    record {
      free = λ p there. absurd (Contains-nil p there);
      by_side = λ i d q early lies. absurd (omega (arith, early));
    },
  )
  samples_below (suc k) within =
      let (places, so_far) = samples_below k (omega (arith, within)) in one_more k places within so_far

  samples : (places : List Place) × AreSamples B (length B) places
  samples = samples_below (length B) (omega arith)

-- ---- two borders
-- what is asked of them
pub record AreOnGrid (A B : List GridSegment) : Type 0 where
  pub noded : AreNoded (A ++ B)
  pub first_ascends : AllPairs IsSegmentBefore A
  pub second_ascends : AllPairs IsSegmentBefore B
  pub second_even : IsEvenBorder B
  pub grid : (s : GridSegment) → Contains (A ++ B) s → IsOnGrid s

module _ (A B : List GridSegment) (h : AreOnGrid A B) where
  first_part : IsPart A (A ++ B)
  first_part s there = Contains-append_left A B s there

  second_part : IsPart B (A ++ B)
  second_part s there = Contains-append_right A B s there

  on_grid : (C : List GridSegment) → IsPart C (A ++ B) → All IsOnGrid C
  on_grid C part = each IsOnGrid C (λ s there. h.grid s (part s there))

  realm : (C : List GridSegment) → IsPart C (A ++ B) → AllPairs IsSegmentBefore C → AreOfRealm C
  realm C part up = border_of_realm C (noded_part C (A ++ B) part h.noded) up (on_grid C part)

  first : HasClassNumbers A
  first = some_numbers A (realm A first_part h.first_ascends)

  in_order : AreInOrder B
  in_order s there = (h.grid s (second_part s there)).order

  -- the segments of both, each once
  module _ (U : List GridSegment) (up : AllPairs IsSegmentBefore U) (same : (s : GridSegment) → Contains U s ↔ Contains (A ++ B) s) where
    both : HasClassNumbers U
    both = some_numbers U (realm U (λ s there. (same s).0 there) up)

    into_first : IsPart A U
    into_first s there = (same s).1 (first_part s there)

    into_second : IsPart B U
    into_second s there = (same s).1 (second_part s there)

    free_of_both : (q : Place) → IsFree A q → IsFree B q → IsFree U q
    free_of_both q off_A off_B = record {
      real = off_A.real;
      apart = λ s there held. elim (Contains-append_cases A B s ((same s).0 there)) [
        | inl in_A ↦ off_A.apart s in_A held
        | inr in_B ↦ off_B.apart s in_B held
      ];
    }

    -- no place is odd for B and in the outer class of A
    abbrev IsShut : Place → Type 0
    IsShut p = Odd B p × IsOuter A p → ⊥

    -- each interior place is in a class with a sample, where all of those are shut in
    shut_in : (places : List Place) → AreSamples U (length U) places → All IsShut places
        → (q : Place) → IsInteriorPoint B q → IsOuter A q → ⊥
    shut_in places are shut q (free, odd) outer =
        elim (both.are.each_class q (free_of_both q (outer_is_free A q outer) free)) [
          | inl outside ↦ outer_is_even B in_order h.second_even q (outer_of_part B U q into_second outside) odd
          | inr (i, d, p, lies, one) ↦
              let (r, there, also) = are.by_side i d p lies.within lies in
              let way = one_class_joined U q p r one also in
              All-contains IsShut places r shut there (
                odd_in_class B in_order h.second_even q r (class_of_part B U q r into_second way) odd,
                outer_goes_on A q r outer (class_of_part A U q r into_first way),
              )
        ]

    shut_or_not : Decided ((q : Place) → IsInteriorPoint B q → IsOuter A q → ⊥)
    shut_or_not =
        let (places, are) = samples U both.numbers both.are in
        let off = λ (C : List GridSegment) (part : IsPart C U) (p : Place) (there : Contains places p). free_of_part C U p part
        (are.free p there) in
        same_decided (
          shut_in places are,
          λ shut. each IsShut places (λ p there (odd, outer). shut p (off B into_second p there, odd) outer),
        ) (all_decided IsShut places (λ p there. not_decided (both_decided (cases_eq _ 1)
        (outer_or_not A first.numbers first.are p (off A into_first p there)))))

  pub shuts_in_or_not : Decided ((q : Place) → IsInteriorPoint B q → IsOuter A q → ⊥)
  shuts_in_or_not = let (U, is) = listed_segments (A ++ B) in shut_or_not U is.ascending is.exact
