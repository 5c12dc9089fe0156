use Rattle.realm_drawing.proofs.KeptPoints.{point_added}
use Rattle.realm_drawing.proofs.drawing.Drawing.add_point.Goals as goal

pub returns-clause-new : goal.returns-clause-new
returns-clause-new c = rw (← c.self.view_is) c.put.ensures.new

-- the originals and the registry stay
pub returns-clause-added : goal.returns-clause-added
returns-clause-added c =
    let inside = c.self.inside in
    rw (← c.self.view_is) (point_added c.put.result _ _ inside.originals inside.registry _ c.put.ensures.members)
