use Rattle.realm_insert.proofs.NewPoints.{among_is}
use Rattle.realm_insert.proofs.placing.is_to_mark.Goals as goal

-- a point is among the explicit ones exactly where it is explicit
pub returns : goal.returns
returns c = among_is c.args.drawing.now.drawing.points c.args.p.now c.is_explicit.result c.is_explicit.ensures.explicit
