use Rattle.std.proofs.Common.{◌+◌, ◌-◌}
use Rattle.hook_chain.proofs.Farey.{IsSearch}
use Rattle.hook_chain.proofs.fraction.least_above.Given as goal

-- the two are neighbours, and nothing between them has a small denominator
abbrev pub invariant-loop-over : goal.invariant-loop-over
invariant-loop-over l = IsSearch l.c l.d l.n l.low.p l.low.q l.high.p l.high.q l.under l.over

-- the denominators grow
abbrev pub decreases-loop-over : goal.decreases-loop-over
decreases-loop-over l = l.n + l.n - (l.low.q + l.high.q)
