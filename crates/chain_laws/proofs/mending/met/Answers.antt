use Rattle.segment_envelope.proofs.MeetPoints.{meet_point_near}
use Rattle.chain_laws.proofs.StepRedrawings.{met_redrawings}
use Rattle.chain_laws.proofs.mending.met.Goals as goal

-- the meet point is near both
pub hooked-requires : goal.hooked-requires
hooked-requires c =
    let near = meet_point_near c.args.t c.args.u c.args.x c.a.ensures.ordered c.a-2.ensures.ordered c.requires.1 in
    record { near = near.0 }

pub hooked-requires-2 : goal.hooked-requires-2
hooked-requires-2 c =
    let near = meet_point_near c.args.t c.args.u c.args.x c.a.ensures.ordered c.a-2.ensures.ordered c.requires.1 in
    record { near = near.1 }

-- the hooks of two pieces that cross are apart
pub returns : goal.returns
returns c =
    let first = c.in_ok-hooked.ensures in
    let second = c.in_ok-hooked-2.ensures in
    met_redrawings c.args.t c.args.u c.args.x c.in_ok-hooked.field-0 c.in_ok-hooked-2.field-0 first.piece second.piece
    c.a.ensures.ordered c.a-2.ensures.ordered c.requires first.hook second.hook
