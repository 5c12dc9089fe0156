-- Each half of a law is a law of any two lists.
use Rattle.rose_predicates.proofs.PointSets.{points_equal, lines_same, one_by_segments}
use Rattle.rose_predicates.proofs.RegionSets.{regions_same}
use Rattle.rose_predicates.proofs.laws.equal_is_same.Goals as goal

-- a point that both have is in both lists, which ascend
pub returns-clause-points : goal.returns-clause-points
returns-clause-points c = λ A B up_a up_b. (let h = points_equal A B up_a up_b in (h.1, h.0))

-- the middle of a segment of one list is on no other segment of the realm, so the other list has the segment
pub returns-clause-lines : goal.returns-clause-lines
returns-clause-lines c = lines_same

-- beside a segment of one border alone the regions differ
pub returns-clause-regions : goal.returns-clause-regions
returns-clause-regions c = regions_same

-- what is first in both is one segment, and so is what comes next
pub returns-clause-one_list : goal.returns-clause-one_list
returns-clause-one_list c = one_by_segments
