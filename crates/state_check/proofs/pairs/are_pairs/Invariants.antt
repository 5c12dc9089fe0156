use Rattle.std.proofs.Common.{◌≡◌, length}
use Rattle.state_check.specs.Pairs.{are_pairs}
use Rattle.state_check.proofs.pairs.are_pairs.Given as goal

-- the rest stands in pairs exactly where all do
abbrev pub invariant-loop-rest : goal.invariant-loop-rest
invariant-loop-rest l = are_pairs l.rest ≡ are_pairs l.points

-- and gets shorter
abbrev pub decreases-loop-rest : goal.decreases-loop-rest
decreases-loop-rest l = length l.rest
