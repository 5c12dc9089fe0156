use Rattle.rose_overlay.proofs.Picks.{listed}
use Rattle.rose_predicates.proofs.PointSets.{noded_back}
use Rattle.rose_predicates.proofs.of_lines.lying_in.Goals as goal

-- the segments of both are those of one realm, in any order
pub within-requires-clause-noded : goal.within-requires-clause-noded
within-requires-clause-noded c = noded_back c.args.lines.now c.args.border.now c.requires.noded

-- the same segments, in order
pub returns-clause-within : goal.returns-clause-within
returns-clause-within c =
    listed _ c.in_ok-within.field-0.items c.ascending_segments.result.items c.in_ok-within.ensures c.ascending_segments.ensures.same
