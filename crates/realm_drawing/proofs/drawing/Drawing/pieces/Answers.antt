use Rattle.realm_drawing.proofs.KeptPieces.{pieces_of_registry}
use Rattle.realm_drawing.proofs.drawing.Drawing.pieces.Goals as goal

-- the pieces are those of the registry
pub returns-clause-exact : goal.returns-clause-exact
returns-clause-exact c =
    rw (← c.self.view_is) (pieces_of_registry _ _ _ c.self.invariant c.pieces.result c.pieces.ensures.exact)
