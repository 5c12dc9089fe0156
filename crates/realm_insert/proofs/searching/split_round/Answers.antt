use Rattle.realm_insert.proofs.CleanPieces.{found_round}
use Rattle.realm_insert.proofs.searching.split_round.Goals as goal

-- what the index finds is all that have the point inside
pub split_by-requires-clause-pieces : goal.split_by-requires-clause-pieces
split_by-requires-clause-pieces c =
    (found_round c.args.drawing.now.drawing c.args.p.now c.in_ok-round.round.items c.as_slice.result.now c.in_ok-round.ensures.round
    c.as_slice.ensures.value).0

pub split_by-requires-clause-round : goal.split_by-requires-clause-round
split_by-requires-clause-round c =
    (found_round c.args.drawing.now.drawing c.args.p.now c.in_ok-round.round.items c.as_slice.result.now c.in_ok-round.ensures.round
    c.as_slice.ensures.value).1
