use Rattle.realm_insert.proofs.CleanPieces.{searched_along}
use Rattle.realm_insert.proofs.settling.step_alone.Goals as goal

-- the pieces along the last one are listed
pub violation_of-requires-clause-search : goal.violation_of-requires-clause-search
violation_of-requires-clause-search c =
    searched_along c.args.drawing.now.drawing c.args.piece.now c.in_ok-pieces.pieces.items c.as_slice.result.now
    c.requires.valid c.in_ok-pieces.ensures c.as_slice.ensures.value
