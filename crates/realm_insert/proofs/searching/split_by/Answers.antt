use Rattle.std.proofs.lemmas.List.Elements.{All-contains}
use Rattle.grid_base.specs.Drawing.{IsPiece}
use Rattle.realm_insert.proofs.CleanPieces.{inside_none}
use Rattle.realm_insert.proofs.FoundSteps.{split_is_permitted}
use Rattle.realm_insert.proofs.searching.split_by.Goals as goal

-- the piece that is found may be split
pub returns-in-Some : goal.returns-in-Some
returns-in-Some c =
    let d = c.args.drawing.now.drawing in
    let t = c.in-Some.t in
    let found = c.in-Some.ensures in
    split_is_permitted d c.args.p.now t (c.is_point.ensures.0 c.if-not-is_point.false)
    (All-contains (IsPiece d) c.args.pieces.now t c.requires.pieces found.0) found.1

-- all that have the point inside are listed
pub returns-in-None : goal.returns-in-None
returns-in-None c =
    inside_none c.args.drawing.now.drawing c.args.p.now c.args.pieces.now c.requires.round (rw c.in-None.is at c.least_round.ensures)
