use Rattle.std.proofs.Common.{◌+◌, length, rules}
use Rattle.std.specs.Ordering.{is_le}
use Rattle.std.proofs.lemmas.List.Sorted.{IsPartitionPoint-from_clause}
use Rattle.grid_base.specs.Segment.{segment_cmp}
use Rattle.plane_sweep.proofs.Copied.{parted_up_to}
use Rattle.plane_sweep.proofs.Neighbours.{looked_not, looked_there, past_none, past_one}
use Rattle.plane_sweep.proofs.copies.place_past.Goals as goal

-- the first that isn't less is another
pub returns-then-not-is_at : goal.returns-then-not-is_at
returns-then-not-is_at c =
    past_none c.args.sorted.now c.args.s.now c.args.first c.requires.sorted c.requires.first
    (looked_not _ _ c.args.first (length c.args.sorted.now) c.is_at.ensures c.if-not-is_at.true)

-- the first is the same and the next is another
pub returns-then-not-is_at-2 : goal.returns-then-not-is_at-2
returns-then-not-is_at-2 c =
    let n = length c.args.sorted.now in
    past_one c.args.sorted.now c.args.s.now c.args.first c.requires.sorted c.requires.first
    (looked_there _ _ c.args.first n c.is_at.ensures c.if-not-is_at.false)
    (looked_not _ _ (c.args.first + 1) n c.is_at-2.ensures c.if-not-is_at-2.true)

-- in a sorted list those that are at most s stand first
pub returns : goal.returns
returns c =
    let s = c.args.s.now in
    let list = c.args.sorted.now in (
      c.partition_point.ensures.bound,
      IsPartitionPoint-from_clause (λ t. is_le (segment_cmp t s)) list _
          c.partition_point.ensures.partitioned (parted_up_to list s c.requires.sorted) (λ a r q k. search rules),
    )
