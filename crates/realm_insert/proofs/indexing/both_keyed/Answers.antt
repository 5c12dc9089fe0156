use Rattle.realm_insert.proofs.NotedPieces.{lists_two}
use Rattle.realm_insert.proofs.indexing.both_keyed.Goals as goal

-- one comes after the other
pub returns : goal.returns
returns c =
    lists_two c.args.drawing.now c.args.t.now c.args.u.now c.in_ok-list.list.items c.note.new.list.items c.in_ok-list.ensures
    c.in_ok-note.ensures
