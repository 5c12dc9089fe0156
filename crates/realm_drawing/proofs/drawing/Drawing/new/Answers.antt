use Rattle.realm_drawing.proofs.KeptPieces.{kept_empty, drawn_empty}
use Rattle.realm_drawing.proofs.drawing.Drawing.new.Goals as goal

-- nothing is drawn yet
pub invariant_of-result : goal.invariant_of-result
invariant_of-result c = rw (c.new.ensures, c.new-2.ensures, c.new-3.ensures.empty) kept_empty

pub returns : goal.returns
returns c = rw (c.new.ensures, c.new-2.ensures, c.new-3.ensures.empty) drawn_empty
