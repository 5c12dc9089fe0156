use Rattle.grid_base.proofs.Orders.{is_segment, is_segment-itself, is_segment-same}
use Rattle.rose_predicates.proofs.RegionSets.{equal_told}
use Rattle.rose_predicates.proofs.RegionSides.{borders_of}
use Rattle.rose_predicates.proofs.Truths.{lists_told, same_told, told_by}
use Rattle.rose_predicates.proofs.of_regions.are_equal.Goals as goal

-- a region decides its border
pub returns : goal.returns
returns c =
    let a = c.args.a.now in
    let b = c.args.b.now in
    let h =
    borders_of a b c.requires.noded c.requires.first c.requires.second c.lesser_ends_first.ensures c.lesser_ends_first-2.ensures in
    told_by (same_told c.eq.ensures (lists_told is_segment is_segment-same is_segment-itself a b)) (equal_told a b h c.requires.first.ascending c.requires.second.ascending)
