-- The lemmas on the order of the segments are the laws.
use Rattle.grid_rational.proofs.Meetings.{meet_point-swap, corner-swap}
use Rattle.grid_rational.proofs.laws.meet_point_is_one.Goals as goal

-- the crossing and the choice of the point are the same from both segments
pub returns-clause-swapped : goal.returns-clause-swapped
returns-clause-swapped c = meet_point-swap

-- the cell is that of the same crossing
pub returns-clause-corner : goal.returns-clause-corner
returns-clause-corner c = corner-swap
