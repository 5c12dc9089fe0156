-- The meet point is at most half a step from the crossing, which is a place of both.
use Rattle.segment_envelope.proofs.MeetPoints.{meet_point_near}
use Rattle.segment_envelope.proofs.laws.meet_point_is_near.Goals as goal

-- where half a step reaches too far, for a diagonal, the point is on it
pub returns : goal.returns
returns c = meet_point_near
