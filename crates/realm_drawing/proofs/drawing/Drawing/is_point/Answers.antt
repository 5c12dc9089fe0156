use Rattle.realm_drawing.proofs.Vertices.{point_by_uses}
use Rattle.realm_drawing.proofs.drawing.Drawing.is_point.Goals as goal

-- what isn't explicit is a point where it is a vertex
pub returns-else-has : goal.returns-else-has
returns-else-has c =
    rw (← c.self.view_is)
    (point_by_uses _ _ _ c.self.invariant c.args.p.now c.has.result c.has.ensures c.if-has.false _
    c.vertex_uses.ensures.used)
