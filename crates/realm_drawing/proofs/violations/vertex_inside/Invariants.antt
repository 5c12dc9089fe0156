use Rattle.std.proofs.Common.{All}
use Rattle.grid_base.specs.Crossing.{Inside}
use Rattle.realm_drawing.proofs.ChainSearches.{IsSearching}
use Rattle.realm_drawing.proofs.violations.vertex_inside.Given as goal

-- no vertex of the chains so far is inside t
abbrev pub invariant-loop-placed : goal.invariant-loop-placed
invariant-loop-placed l = IsSearching (All (λ p. Inside p l.t → ⊥)) l.originals l.placed-iterator
