-- The crossing is a place of both.
use Rattle.grid_rational.proofs.Crossings.{crossing_is_place}
use Rattle.grid_rational.proofs.meeting.crossing.Goals as goal

-- the segments cross here, and then their crossing is a common place
pub returns-then-crosses-clause-common : goal.returns-then-crosses-clause-common
returns-then-crosses-clause-common c = crossing_is_place c.args.s.now c.args.t.now (c.crosses.ensures.0 c.if-crosses.true)
