use Rattle.std.proofs.Common.{List, subst}
use Rattle.realm_drawing.specs.declared.keyed.KeyedPiece.{KeyedPiece}
use Rattle.realm_insert.specs.Indexing.{ListsWithKey}
use Rattle.realm_insert.proofs.NotedPieces.{lists_one}
use Rattle.realm_insert.proofs.indexing.keyed_piece.Goals as goal

-- the list was empty
pub returns : goal.returns
returns c =
    let d = c.args.drawing.now in
    let t = c.args.t.now in
    let new = c.note.new.list.items in
    lists_one d t new (subst (λ (l : List KeyedPiece). ListsWithKey d t l new) c.new-list.ensures.items c.in_ok-note.ensures)
