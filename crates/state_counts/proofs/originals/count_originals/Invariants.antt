use Rattle.std.proofs.Common.{◌≡◌, ◌<◌}
use Rattle.state_counts.proofs.IdsBelow.{ids_below}
use Rattle.state_counts.proofs.originals.count_originals.Given as goal

-- those with the ids so far are counted
abbrev pub invariant-loop-id : goal.invariant-loop-id
invariant-loop-id l = (l.count ≡ ids_below l.id l.drawing.drawing.originals) × (l.count < l.id)
