-- This file shows that a sorted list, each segment once, has the segments of the list.
use Rattle.std.proofs.Common.{◌↔◌, List, Contains, IsPermutation}
use Rattle.std.specs.List.{dedup}
use Rattle.std.proofs.lemmas.List.Sorted.{Contains-permutation, IsPermutation-sym}
use Rattle.grid_base.specs.Segment.{GridSegment}
use Rattle.grid_base.proofs.Orders.{segments_stay, is_segment}

pub segments_sorted : (list sorted : List GridSegment) (s : GridSegment) → IsPermutation list sorted
    → Contains (dedup is_segment sorted) s ↔ Contains list s
segments_sorted list sorted s moved = (
  λ c. Contains-permutation sorted list s (IsPermutation-sym list sorted moved) ((segments_stay sorted s).0 c),
  λ c. (segments_stay sorted s).1 (Contains-permutation list sorted s moved c),
)
