use Rattle.std.proofs.Common.{sym, subst}
use Rattle.grid_base.specs.Point.{InBox}
use Rattle.realm_insert.specs.Clashes.{HasKeysAt}
use Rattle.realm_insert.proofs.CleanPieces.{key_is_listed}
use Rattle.realm_insert.proofs.searching.pieces_round.Goals as goal

-- the index lists the keys
pub pieces_among-requires-clause-round : goal.pieces_among-requires-clause-round
pieces_among-requires-clause-round c =
    let d = c.args.drawing.now in
    let p = c.args.p.now in
    subst (HasKeysAt d p) (sym c.as_slice.ensures.value)
    (key_is_listed (λ t. InBox t.a t.b p) d c.args.index.now c.in_ok-keys.keys.items c.requires.indexed c.in_ok-keys.ensures.keys.exact)
