use Rattle.realm_insert.proofs.CleanPieces.{searched_within}
use Rattle.realm_insert.proofs.settling.step_within.Goals as goal

-- the pieces round the box are those round each piece in it
pub step_at_last-requires-clause-search : goal.step_at_last-requires-clause-search
step_at_last-requires-clause-search c =
    searched_within c.args.drawing.now.drawing c.args.near.now c.in-Some.piece c.args.pieces.now
    (c.lies_within.ensures.0 c.if-not-lies_within.false) c.requires.met
