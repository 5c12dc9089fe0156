use Rattle.std.proofs.Common.{MatchOption, All, take}
use Rattle.grid_base.specs.Crossing.{Inside}
use Rattle.realm_insert.specs.Clashes.{IsOneRound}
use Rattle.realm_insert.proofs.searching.least_round.Given as goal

-- no segment so far has the point inside, or one that has is found
abbrev pub invariant-loop-t : goal.invariant-loop-t
invariant-loop-t l = MatchOption l.least (All (λ t. Inside l.p t → ⊥) (take l.t-index l.list)) (IsOneRound l.p l.list)
