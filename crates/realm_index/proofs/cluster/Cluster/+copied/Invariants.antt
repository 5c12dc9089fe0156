use Rattle.std.proofs.Common.{◌≡◌, take}
use Rattle.realm_index.proofs.cluster.Cluster.+copied.Given as goal

abbrev pub decreases-copied : goal.decreases-copied
decreases-copied l = goal.size-copied l

abbrev pub invariant-loop-part : goal.invariant-loop-part
invariant-loop-part l = l.parts.items ≡ take l.part-index l.part-items
