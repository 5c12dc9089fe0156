-- This file shows that values of one kind have a sum, and that values with keys have a fusion.
use Rattle.std.proofs.Common.{◌≡◌, ◌≢◌, ◌⊎◌, ℕ, ◌+◌, List, [], ◌∷◌, ◌++◌, map, flat_map, length, All, AllPairs, Contains}
use Rattle.std.proofs.Common.{refl, sym, ap, inl, inr, arith}
use Rattle.std.proofs.lemmas.List.Elements.{All-contains, All-cons, All-head, All-tail, Contains-append_left, Contains-append_right}
use Rattle.std.proofs.lemmas.List.Elements.{Contains-append_cases}
use Rattle.grid_base.specs.Border.{AreNoded}
use Rattle.grid_base.specs.Point.{IsBefore}
use Rattle.grid_base.specs.Segment.{GridSegment, IsSegmentBefore}
use Rattle.grid_base.specs.declared.kinds.Kind.{Kind}
use Rattle.grid_base.specs.declared.kinds.Kind.TheVariants.{Points, Lines, Regions}
use Rattle.grid_base.proofs.Elements.{Contains-here, Contains-later, Contains-cases}
use Rattle.rose_values.specs.Areas.{IsRegionWhere}
use Rattle.rose_values.specs.Geometry.{kind_of}
use Rattle.rose_values.specs.Operators.{segments_of}
use Rattle.rose_values.specs.declared.geometry.Geometry.{Geometry}
use Rattle.rose_values.specs.declared.geometry.Geometry.TheVariants.{P, L, R}
use Rattle.rose_values.specs.declared.operators.Op.TheVariants.{Plus}
use Rattle.rose_measure.proofs.Members.{Contains-flat_map, joined_from}
use Rattle.rose_overlay.proofs.Parted.{noded_part}
use Rattle.rose_operators.specs.Results.{IsAscending}
use Rattle.rose_sets.specs.Sums.{points_of, all_segments, AreOfKind, AreMixed, SomeHasPlace, IsSum}
use Rattle.rose_sets.specs.Fusions.{values_with, IsFusion}
use Rattle.rose_sets.specs.declared.group.Group.{Group}
use Rattle.rose_sets.proofs.PlaceSteps.{fused}
use Rattle.rose_sets.proofs.SumLemmas.{one_summed, halves_summed}
use Rattle.rose_sets.proofs.ValueLists.{some_of, found_in, all_of, all_have, all_in, segment_in_all}
use Rattle.one_reply.proofs.Decisions.{Decided, first_with, not_decided}
use Rattle.one_reply.proofs.Listings.{listed_points, listed_segments, listed_numbers}
use Rattle.one_reply.proofs.OneSet.{in_list_too, some_with}
use Rattle.one_reply.proofs.SomeGeometry.{IsEvenValue}
use Rattle.one_reply.proofs.SomeMade.{are_borders, some_combination}

-- the values are of one realm, and even if they are regions
pub record AreSound (list : List Geometry) : Type 0 where
  pub noded : AreNoded (all_segments list)
  pub ordered : All (λ s. IsBefore s.a s.b) (all_segments list)
  pub even : All IsEvenValue list

-- so are some of them
pub sound_part : (list part : List Geometry) → ((g : Geometry) → Contains part g → Contains list g) → AreSound list → AreSound part
sound_part list part in_list sound = record {
  noded = noded_part (all_segments list) (all_segments part) (all_in part list in_list) sound.noded;
  ordered = all_of (λ (s : GridSegment). IsBefore s.a s.b) (all_segments part)
      (λ s there. All-contains (λ (t : GridSegment). IsBefore t.a t.b) (all_segments list) s sound.ordered (all_in part list in_list s there));
  even = all_of IsEvenValue part (λ g there. All-contains IsEvenValue list g sound.even (in_list g there));
}

-- ---- one kind, or two
kind_decided : (k l : Kind) → Decided (k ≡ l)
kind_decided Points Points = inl refl
kind_decided Points Lines = inr (λ e. cc)
kind_decided Points Regions = inr (λ e. cc)
kind_decided Lines Points = inr (λ e. cc)
kind_decided Lines Lines = inl refl
kind_decided Lines Regions = inr (λ e. cc)
kind_decided Regions Points = inr (λ e. cc)
kind_decided Regions Lines = inr (λ e. cc)
kind_decided Regions Regions = inl refl

-- values of one kind, of which there are some
pub record AreAlike (list : List Geometry) : Type 0 where
  pub kind : Kind
  pub of_kind : AreOfKind kind list
  pub some : list ≢ []

pub alike_or_mixed : (list : List Geometry) → AreAlike list ⊎ AreMixed list
alike_or_mixed [] = inr (inl refl)
alike_or_mixed (g ∷ list) =
    elim (first_with (λ (h : Geometry). kind_of h ≡ kind_of g → ⊥) list (λ h there. not_decided (kind_decided (kind_of h) (kind_of g)))) [
      | inl (h, there, differ) ↦
          inr (inr (g, h, Contains-here g list, Contains-later g list h there, λ same. differ (sym same)))
      | inr none ↦ inl (record {
        kind = kind_of g;
        of_kind = all_of (λ (h : Geometry). kind_of h ≡ kind_of g) (g ∷ list) (alike none);
        some = λ e. cc;
      })
    ]
  where
    alike : ((h : Geometry) → Contains list h → (kind_of h ≡ kind_of g → ⊥) → ⊥) → (h : Geometry) → Contains (g ∷ list) h
        → kind_of h ≡ kind_of g
    alike none h there = elim (kind_decided (kind_of h) (kind_of g)) [
      | inl same ↦ same
      | inr differ ↦ elim (Contains-cases g list h there) [
        | inl same ↦ absurd (differ (ap kind_of (sym same)))
        | inr later ↦ absurd (none h later differ)
      ]
    ]

-- all values are regions, or one isn't
pub regions_or_other : (list : List Geometry)
    → AreOfKind Regions list ⊎ ((g : Geometry) × Contains list g × (kind_of g ≢ Regions))
regions_or_other list =
    elim (first_with (λ (g : Geometry). kind_of g ≡ Regions → ⊥) list (λ g there. not_decided (kind_decided (kind_of g) Regions))) [
      | inl other ↦ inr other
      | inr none ↦ inl (all_of (λ (g : Geometry). kind_of g ≡ Regions) list (λ g there. elim (kind_decided (kind_of g) Regions) [
        | inl region ↦ region
        | inr differ ↦ absurd (none g there differ)
      ]))
    ]

-- ---- the sum of values of one kind
-- the border is that of the sum of the regions
record IsBorderOfSum (list : List Geometry) (border : List GridSegment) : Type 0 where
  ascending : AllPairs IsSegmentBefore border
  region : IsRegionWhere (all_segments list) (SomeHasPlace list) border

points_differ : Points ≢ Regions
points_differ e = let same = e in cc

lines_differ : Lines ≢ Regions
lines_differ e = let same = e in cc

-- one region, or a region and the sum of those behind it
region_sum : (g : Geometry) (list : List Geometry) → AreSound (g ∷ list) → AreOfKind Regions (g ∷ list) → All IsAscending (g ∷ list)
    → (border : List GridSegment) × IsBorderOfSum (g ∷ list) border
region_sum (P points) list sound kind up =
    absurd (points_differ (All-head (λ (h : Geometry). kind_of h ≡ Regions) (P points) list kind))
region_sum (L lines) list sound kind up =
    absurd (lines_differ (All-head (λ (h : Geometry). kind_of h ≡ Regions) (L lines) list kind))
region_sum (R A) [] sound kind up = (
  A,
  record {
    ascending = All-head IsAscending (R A) [] up;
    region = one_summed (R A) A refl (All-head IsEvenValue (R A) [] sound.even);
  },
)
region_sum (R A) (h ∷ list) sound kind up =
    let behind = sound_part (R A ∷ h ∷ list) (h ∷ list) (Contains-later (R A) (h ∷ list)) sound in
    let (B, is) = region_sum h list behind (All-tail (λ (k : Geometry). kind_of k ≡ Regions) (R A) (h ∷ list) kind)
    (All-tail IsAscending (R A) (h ∷ list) up) in
    let even = All-head IsEvenValue (R A) (h ∷ list) sound.even in
    let all = all_segments (R A ∷ h ∷ list) in
    let (C, ascends, made) = some_combination Plus A B
    (are_borders A B (noded_part all (A ++ B) (in_all B is) sound.noded)
    (all_of (λ (s : GridSegment). IsBefore s.a s.b) (A ++ B)
    (λ s there. All-contains (λ (t : GridSegment). IsBefore t.a t.b) all s sound.ordered (in_all B is s there))) even is.region.even) in (
      C,
      record {
        ascending = ascends;
        region = halves_summed (R A ∷ []) (h ∷ list) (R A ∷ h ∷ list) A B C refl (one_summed (R A) A refl even) is.region made;
      },
    )
  where
    in_all : (B : List GridSegment) → IsBorderOfSum (h ∷ list) B → (s : GridSegment) → Contains (A ++ B) s
        → Contains (all_segments (R A ∷ h ∷ list)) s
    in_all B is s there = elim (Contains-append_cases A B s there) [
      | inl first ↦ Contains-append_left A (all_segments (h ∷ list)) s first
      | inr second ↦ Contains-append_right A (all_segments (h ∷ list)) s (is.region.of_these s second)
    ]

-- the sum of the values, which ascends
pub record HasSum (list : List Geometry) : Type 0 where
  pub made : Geometry
  pub is_sum : IsSum list made
  pub ascending : IsAscending made

sum_of_kind : (kind : Kind) (list : List Geometry) → AreOfKind kind list → list ≢ [] → AreSound list → All IsAscending list → HasSum list
sum_of_kind Points list of_kind some sound up =
    let (points, is) = listed_points (flat_map points_of list) in record {
      made = P points;
      is_sum = (
        of_kind,
        λ p. (
          λ there.
              let (g, in_list, own) = joined_from points_of list p ((is.exact p).0 there) in
              some_of (λ (h : Geometry). Contains (points_of h) p) list g in_list own,
          λ has.
              let (g, in_list, own) = found_in (λ (h : Geometry). Contains (points_of h) p) list has in
              (is.exact p).1 (Contains-flat_map points_of list g p in_list own),
        ),
      );
      ascending = is.ascending;
    }
sum_of_kind Lines list of_kind some sound up =
    let (segments, is) = listed_segments (all_segments list) in record {
      made = L segments;
      is_sum = (
        of_kind,
        λ s. (
          λ there. segment_in_all list s ((is.exact s).0 there),
          λ has.
              let (g, in_list, own) = found_in (λ (h : Geometry). Contains (segments_of h) s) list has in
              (is.exact s).1 (all_have list g s in_list own),
        ),
      );
      ascending = is.ascending;
    }
sum_of_kind Regions [] of_kind some sound up = absurd (some refl)
sum_of_kind Regions (g ∷ list) of_kind some sound up =
    let (border, is) = region_sum g list sound of_kind up in
    record { made = R border; is_sum = (of_kind, is.region); ascending = is.ascending }

pub some_sum : (list : List Geometry) → AreAlike list → AreSound list → All IsAscending list → HasSum list
some_sum list alike sound up = sum_of_kind alike.kind list alike.of_kind alike.some sound up

-- ---- fusions
-- the groups with these keys, each with its sum
record HaveGroups (list : List Geometry) (keys found : List ℕ) : Type 0 where
  groups : List Group
  keys_are : map (λ group. group.key) groups ≡ found
  sums : All (λ group. IsSum (values_with group.key keys list) group.g) groups
  ascending : All (λ group. IsAscending group.g) groups

groups_of : (list : List Geometry) (keys found : List ℕ) → ((key : ℕ) → Contains found key → HasSum (values_with key keys list))
    → HaveGroups list keys found
groups_of list keys [] sum = record {
  groups = [];
  keys_are = refl;
  sums = λ k d within. absurd (omega (arith, within));
  ascending = λ k d within. absurd (omega (arith, within));
}
groups_of list keys (key ∷ found) sum =
    let first = sum key (Contains-here key found) in
    let behind = groups_of list keys found (λ k there. sum k (Contains-later key found k there)) in
    let group : Group = record { key = key; g = first.made } in record {
      groups = group ∷ behind.groups;
      keys_are = ap (λ (l : List ℕ). key ∷ l) behind.keys_are;
      sums = All-cons (λ (h : Group). IsSum (values_with h.key keys list) h.g) group behind.groups first.is_sum behind.sums;
      ascending = All-cons (λ (h : Group). IsAscending h.g) group behind.groups first.ascending behind.ascending;
    }

pub record HasFusion (list : List Geometry) (keys : List ℕ) : Type 0 where
  pub groups : List Group
  pub is_fusion : IsFusion list keys groups
  pub ascending : All (λ group. IsAscending group.g) groups

pub some_fusion : (list : List Geometry) (keys : List ℕ) → length keys ≡ length list → AreAlike list → AreSound list
    → All IsAscending list → HasFusion list keys
some_fusion list keys even alike sound up =
    let (found, is) = listed_numbers keys in
    let have = groups_of list keys found (λ key there. sum_with key ((is.exact key).0 there)) in record {
      groups = have.groups;
      is_fusion = fused list keys found have.groups (λ k within. is.ascending k (k + 1) 0 (omega arith) within) is.exact
          have.keys_are have.sums;
      ascending = have.ascending;
    }
  where
    sum_with : (key : ℕ) → Contains keys key → HasSum (values_with key keys list)
    sum_with key there =
        let part = values_with key keys list in
        let in_list = in_list_too list keys key in
        some_sum part (record {
          kind = alike.kind;
          of_kind = all_of (λ (g : Geometry). kind_of g ≡ alike.kind) part
              (λ g in_part. All-contains (λ (h : Geometry). kind_of h ≡ alike.kind) list g alike.of_kind (in_list g in_part));
          some = some_with list keys key even there;
        }) (sound_part list part in_list sound)
        (all_of IsAscending part (λ g in_part. All-contains IsAscending list g up (in_list g in_part)))
