-- This file shows that the sorted keys of a map are its keys and rise.
use Rattle.std.proofs.Common.{◌≡◌, ◌↔◌, ℕ, ◌<◌, Bool, true, false, List, Contains, AllPairs, length, get_or}
use Rattle.std.proofs.Common.{Ordering, Less, Equal, Greater, IsSome, refl, arith}
use Rattle.std.specs.Cmp.{IsTotalOrder, IsEquivalence}
use Rattle.std.specs.Ordering.{is_eq, is_lt}
use Rattle.std.specs.HashMap.{HashMap}
use Rattle.std.specs.HashMap as hash
use Rattle.std.specs.List.Sorted.{IsPermutation, IsSorted}
use Rattle.std.proofs.lemmas.List.Sorted.{sorted_far, ranks_by, Contains-permutation, IsPermutation-sym}
use Rattle.std.proofs.lemmas.Map.Keys.{apart_from_distinct, IsDistinct-IsPermutation}
use Rattle.std.proofs.lemmas.Map.Views.{hash_map_contains_key_iff}
use Rattle.grid_base.specs.Point.{GridPoint, IsBefore, is_point, point_cmp}
use Rattle.grid_base.specs.Segment.{GridSegment, IsSegmentBefore, segment_cmp}
use Rattle.grid_base.proofs.Orders.{point_cmp-total, point_cmp-Less, is_point-equiv, is_point-same}
use Rattle.grid_base.proofs.Orders.{segment_cmp-total, segment_cmp-Less, is_segment-same}
use Rattle.component_registry.specs.Kept.{is_segment}
use Rattle.component_registry.proofs.Lookups.{is_point-ties, is_segment-equiv, is_segment-ties}

module _ {K X S : Type 0} {R : K → K → Ordering} {E : K → K → Bool} (total : IsTotalOrder R) (laws : IsEquivalence E)
    (same : (x y : K) → E x y ≡ true → x ≡ y) (ties : (x y : K) → E x y ≡ is_eq (R x y)) (m : HashMap K X S) (xs : List K)
    (moved : IsPermutation (hash.keys m) xs) where
  -- the list has what a look-up finds
  pub listed : (k : K) → Contains xs k ↔ IsSome (hash.get E m k)
  listed k =
      let found = hash_map_contains_key_iff laws same m k in (
        λ there. found.1 (Contains-permutation xs (hash.keys m) k (IsPermutation-sym (hash.keys m) xs moved) there),
        λ some. Contains-permutation (hash.keys m) xs k moved (found.0 some),
      )

  -- of two that aren't equal, the later of which isn't less, the first is less
  first_less : (x y : K) → is_lt (R y x) ≡ false → E x y ≡ false → R x y ≡ Less
  first_less x y no_less apart = by_order (R x y) refl
    where
      by_order : (o : Ordering) → R x y ≡ o → o ≡ Less
      by_order Less e = refl
      by_order Equal e = cc (ties x y)
      by_order Greater e = cc (total.antisymm y x)

  -- each is less than the later ones
  pub rises : hash.IsUnique E m → IsSorted R xs → (i j : ℕ) (d : K) → i < j → j < length xs
      → R (get_or xs i d) (get_or xs j d) ≡ Less
  rises unique sorted i j d before within =
      let order = sorted_far (λ x y. is_lt (R x y)) (ranks_by total (λ (k : K). k)) xs sorted i j d (omega arith) within in
      let distinct = IsDistinct-IsPermutation E laws.symm (hash.keys m) xs moved unique in
      first_less _ _ order (apart_from_distinct E xs i j d distinct before within)

module _ {X S : Type 0} where
  -- of points
  pub points_listed : (m : HashMap GridPoint X S) (ps : List GridPoint) → IsPermutation (hash.keys m) ps → (p : GridPoint)
      → Contains ps p ↔ IsSome (hash.get is_point m p)
  points_listed = listed point_cmp-total is_point-equiv is_point-same is_point-ties

  pub points_rise : (m : HashMap GridPoint X S) (ps : List GridPoint) → IsPermutation (hash.keys m) ps
      → hash.IsUnique is_point m → IsSorted point_cmp ps → AllPairs IsBefore ps
  points_rise m ps moved unique sorted i j d before within =
      let less = rises point_cmp-total is_point-equiv is_point-same is_point-ties m ps moved unique sorted i j d before within in
      (point_cmp-Less _ _).0 less

  -- of segments
  pub segments_listed : (m : HashMap GridSegment X S) (ss : List GridSegment) → IsPermutation (hash.keys m) ss
      → (s : GridSegment) → Contains ss s ↔ IsSome (hash.get is_segment m s)
  segments_listed = listed segment_cmp-total is_segment-equiv is_segment-same is_segment-ties

  pub segments_rise : (m : HashMap GridSegment X S) (ss : List GridSegment) → IsPermutation (hash.keys m) ss
      → hash.IsUnique is_segment m → IsSorted segment_cmp ss → AllPairs IsSegmentBefore ss
  segments_rise m ss moved unique sorted i j d before within =
      let less = rises segment_cmp-total is_segment-equiv is_segment-same is_segment-ties m ss moved unique sorted i j d before within in
      (segment_cmp-Less _ _).0 less
