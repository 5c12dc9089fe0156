use Rattle.std.proofs.Common.{rules}
use Rattle.std.specs.Ordering.{is_lt}
use Rattle.std.proofs.lemmas.List.Sorted.{IsPartitionPoint-from_clause}
use Rattle.grid_base.specs.Segment.{segment_cmp}
use Rattle.plane_sweep.proofs.Copied.{parted_before}
use Rattle.plane_sweep.proofs.copies.first_place.Goals as goal

-- in a sorted list those that are less stand first
pub returns : goal.returns
returns c =
    let s = c.args.s.now in
    let list = c.args.sorted.now in (
      c.partition_point.ensures.bound,
      IsPartitionPoint-from_clause (λ t. is_lt (segment_cmp t s)) list _
          c.partition_point.ensures.partitioned (parted_before list s c.requires) (λ a r q k. search rules),
    )
