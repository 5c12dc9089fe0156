use Rattle.std.proofs.Common.{take}
use Rattle.state_check.specs.Pairs.{HasEndsOf}
use Rattle.state_check.proofs.ends.ends_of.Given as goal

-- the ends of the originals with the ids so far are listed
abbrev pub invariant-loop-id : goal.invariant-loop-id
invariant-loop-id l = HasEndsOf l.drawing.drawing (take l.id-index l.ids) l.list.items
