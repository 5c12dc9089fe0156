use Rattle.std.proofs.Common.{◌≡◌, All, map, take}
use Rattle.segment_lists.specs.Ends.{AreEnds, between_ends}
use Rattle.segment_lists.proofs.listing.segments_with.Given as goal

-- so far there were ends, and the segments between them are listed
abbrev pub invariant-loop-ends : goal.invariant-loop-ends
invariant-loop-ends l =
    All AreEnds (take l.ends-index l.table) × (l.list.items ≡ map between_ends (take l.ends-index l.table))
