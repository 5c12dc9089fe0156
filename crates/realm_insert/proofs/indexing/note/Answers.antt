use Rattle.std.proofs.Common.{List, sym, subst}
use Rattle.realm_drawing.specs.declared.keyed.KeyedPiece.{KeyedPiece}
use Rattle.realm_insert.specs.Indexing.{ListsWithKey}
use Rattle.realm_insert.proofs.NotedPieces.{lists_piece, lists_no_piece}
use Rattle.realm_insert.proofs.indexing.note.Goals as goal

-- the piece comes last
pub returns-in_ok-push : goal.returns-in_ok-push
returns-in_ok-push c =
    let d = c.args.drawing.now in
    let s = c.args.s.now in
    let old = c.args.list.now.items in
    subst (λ (l : List KeyedPiece). ListsWithKey d s old l) (sym c.in_ok-push.ensures.items)
    (lists_piece d s c.in-Some.key old c.key.ensures.keyed ((c.key.ensures.key c.in-Some.key).0 c.in-Some.is))

-- what is no piece has no key
pub returns-in_default : goal.returns-in_default
returns-in_default c =
    lists_no_piece c.args.drawing.now c.args.s.now c.args.list.now.items
    (λ k has. c.in_default.not-Some k ((c.key.ensures.key k).1 has))
