use Rattle.std.proofs.Common.{take}
use Rattle.side_parity.proofs.Answered.{AreCounted}
use Rattle.side_parity.proofs.both.sides.Given as goal

-- both counts as far as the loop has come
abbrev pub invariant-loop-t : goal.invariant-loop-t
invariant-loop-t l = AreCounted l.odd l.own (take l.t-index l.border) l.s
