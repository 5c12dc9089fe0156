use Rattle.realm_insert.proofs.CleanPieces.{met_round, searched_within}
use Rattle.realm_insert.proofs.settling.step_near.Goals as goal

-- the pieces round the box are listed, and the last piece is in it
pub step_at_last-requires-clause-search : goal.step_at_last-requires-clause-search
step_at_last-requires-clause-search c =
    let d = c.args.drawing.now.drawing in
    let near = c.args.near.now in
    let list = c.as_slice in
    searched_within d near c.args.piece.now list.result.now c.requires.within
    (met_round d near c.in_ok-pieces.pieces.items list.result.now c.requires.valid c.in_ok-pieces.ensures list.ensures.value)

pub step_within-requires-clause-met : goal.step_within-requires-clause-met
step_within-requires-clause-met c =
    let list = c.as_slice-2 in
    met_round c.args.drawing.now.drawing c.args.near.now c.in_ok-pieces.pieces.items list.result.now
    c.requires.valid c.in_ok-pieces.ensures list.ensures.value
