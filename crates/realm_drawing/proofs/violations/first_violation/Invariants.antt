use Rattle.realm_drawing.specs.Found.{drawing_of, NoLink, IsViolated}
use Rattle.realm_drawing.proofs.ChainSearches.{IsSearching}
use Rattle.realm_drawing.proofs.violations.first_violation.Given as goal

-- no link of the chains so far is violated
abbrev pub invariant-loop-placed : goal.invariant-loop-placed
invariant-loop-placed l =
    IsSearching (NoLink (IsViolated (drawing_of l.explicit l.originals))) l.originals l.placed-iterator
