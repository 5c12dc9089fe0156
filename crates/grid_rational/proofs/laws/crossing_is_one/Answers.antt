-- The lemmas on crossings are the laws.
use Rattle.grid_rational.proofs.Crossings.{crossing_is_place, crossing-swap, crossing_is_only}
use Rattle.grid_rational.proofs.laws.crossing_is_one.Goals as goal

-- the weighted mean of the ends of t is a place of t, and by the other crossing of s
pub returns-clause-common : goal.returns-clause-common
returns-clause-common c = crossing_is_place

-- both crossings have the same numbers
pub returns-clause-swapped : goal.returns-clause-swapped
returns-clause-swapped c = crossing-swap

-- two lines that aren't parallel have one common point
pub returns-clause-no_other : goal.returns-clause-no_other
returns-clause-no_other c = crossing_is_only
