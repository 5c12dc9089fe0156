use Rattle.grid_base.specs.Crossing.{Cross}
use Rattle.realm_drawing.specs.Found.{NoLink}
use Rattle.realm_drawing.proofs.ChainSearches.{IsSearching}
use Rattle.realm_drawing.proofs.violations.crossing_of.Given as goal

-- no link of the chains so far crosses t
abbrev pub invariant-loop-placed : goal.invariant-loop-placed
invariant-loop-placed l = IsSearching (NoLink (Cross l.t)) l.originals l.placed-iterator
