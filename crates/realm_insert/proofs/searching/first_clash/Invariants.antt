use Rattle.std.proofs.Common.{MatchOption, take}
use Rattle.hook_chain.specs.Mending.{IsPermitted}
use Rattle.realm_insert.specs.Clashes.{AreClear}
use Rattle.realm_insert.proofs.searching.first_clash.Given as goal

-- no piece so far clashes, or a step that mends is found
abbrev pub invariant-loop-t : goal.invariant-loop-t
invariant-loop-t l = MatchOption l.first (AreClear l.drawing.drawing l.s (take l.t-index l.pieces))
    (λ found. IsPermitted l.drawing.drawing found.step)
