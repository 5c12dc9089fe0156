use Rattle.std.proofs.Common.{sym, subst}
use Rattle.grid_base.specs.Segment.{BoxesMeet}
use Rattle.realm_insert.specs.Clashes.{HasKeysRound}
use Rattle.realm_insert.proofs.CleanPieces.{key_is_listed}
use Rattle.realm_insert.proofs.searching.pieces_near.Goals as goal

-- the index lists the keys
pub pieces_met-requires-clause-round : goal.pieces_met-requires-clause-round
pieces_met-requires-clause-round c =
    let d = c.args.drawing.now in
    let near = c.args.near.now in
    subst (HasKeysRound d near) (sym c.as_slice.ensures.value)
    (key_is_listed (BoxesMeet near) d c.args.index.now c.in_ok-keys.keys.items c.requires.indexed c.in_ok-keys.ensures.keys.exact)
