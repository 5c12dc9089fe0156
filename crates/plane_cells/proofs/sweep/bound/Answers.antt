use Rattle.plane_cells.proofs.AskedLabels.{bound_read, bound_none}
use Rattle.plane_cells.proofs.sweep.bound.Goals as goal

pub returns-then-index-vertices : goal.returns-then-index-vertices
returns-then-index-vertices c = bound_read c.args.vertices.now c.args.index c.if-index-vertices.true

pub returns-else-index-vertices : goal.returns-else-index-vertices
returns-else-index-vertices c = bound_none c.args.vertices.now c.args.index c.if-index-vertices.false
