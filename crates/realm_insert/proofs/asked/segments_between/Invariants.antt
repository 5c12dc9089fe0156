use Rattle.std.proofs.Common.{◌≡◌, map, take}
use Rattle.realm_insert.specs.Lines.{segment_between}
use Rattle.realm_insert.proofs.asked.segments_between.Given as goal

-- the segments so far are listed
abbrev pub invariant-loop-e : goal.invariant-loop-e
invariant-loop-e l = l.segments.items ≡ map segment_between (take l.e-index l.list)
