use Rattle.std.proofs.Common.{sym, ◌∙◌, subst}
use Rattle.realm_index.specs.Index.{Entries}
use Rattle.realm_insert.proofs.IndexKeys.{IsPutIn, put_in, none_where_not, some_where}
use Rattle.realm_insert.proofs.MissingPieces.{adds_no_piece, adds_nothing, adds_missing}
use Rattle.realm_insert.proofs.indexing.put_if_missing.Goals as goal

-- nothing is under the key
pub insert-requires : goal.insert-requires
insert-requires c = record {
  new_key = sym c.segment.ensures ∙ none_where_not c.segment.result c.if-is_none.ensures;
}

pub returns-in_ok-insert : goal.returns-in_ok-insert
returns-in_ok-insert c =
    let key = c.in-Some.key in
    let index = c.args.index.now in
    let s = c.args.s.now in
    adds_missing c.args.drawing.now s key c.key.ensures.keyed ((c.key.ensures.key key).0 c.in-Some.is) index
    c.insert.new.self (sym c.segment.ensures ∙ none_where_not c.segment.result c.if-is_none.ensures)
    (subst (λ (m : Entries). IsPutIn index m key s) (sym c.in_ok-insert.ensures.ok) (put_in index key s))

-- a piece is under it
pub returns-else-is_none : goal.returns-else-is_none
returns-else-is_none c =
    let key = c.in-Some.key in
    let (u, there) = some_where c.segment.result c.if-is_none.ensures in
    adds_nothing c.args.drawing.now c.args.s.now key c.key.ensures.keyed ((c.key.ensures.key key).0 c.in-Some.is) u
    c.args.index.now c.requires.pieces (sym c.segment.ensures ∙ there)

-- what is no piece has no key
pub returns-in_default : goal.returns-in_default
returns-in_default c =
    adds_no_piece c.args.drawing.now c.args.s.now c.args.index.now
    (λ k has. c.in_default.not-Some k ((c.key.ensures.key k).1 has))
