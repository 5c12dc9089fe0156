use Rattle.std.proofs.lemmas.List.Filters.{dedup_is}
use Rattle.grid_base.proofs.Orders.{segments_ascend}
use Rattle.segment_lists.proofs.Sorts.{segments_sorted}
use Rattle.segment_lists.proofs.listing.ascending_segments.Goals as goal

-- the list is sorted, and then each segment is kept once
pub returns-clause-ascending : goal.returns-clause-ascending
returns-clause-ascending c =
    rw (dedup_is _ _ _ c.dedup.ensures.filtered) (segments_ascend c.sort_unstable.new.self.items c.sort_unstable.ensures.sorted)

-- no segment is lost or won
pub returns-clause-same : goal.returns-clause-same
returns-clause-same c = λ s.
    rw (dedup_is _ _ _ c.dedup.ensures.filtered)
    (segments_sorted c.args.list.items c.sort_unstable.new.self.items s c.sort_unstable.ensures.permutation)
