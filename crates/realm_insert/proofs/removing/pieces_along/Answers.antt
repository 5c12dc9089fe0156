use Rattle.std.proofs.Common.{List, subst, sym, take, take_all, arith}
use Rattle.grid_base.specs.Point.{GridPoint}
use Rattle.realm_drawing.specs.declared.keyed.KeyedPiece.{KeyedPiece}
use Rattle.realm_insert.specs.Work.{ListsLinks}
use Rattle.realm_insert.proofs.NotedLinks.{lists_none, lists_next, lists_chain}
use Rattle.realm_insert.proofs.removing.pieces_along.Goals as goal

pub loop-i-init : goal.loop-i-init
loop-i-init c =
    subst (λ (l : List KeyedPiece). ListsLinks c.args.drawing.now (take 1 c.in-Some.points.now) l) (sym c.new-list.ensures.items)
    (lists_none c.args.drawing.now c.in-Some.points.now)

-- one link more
pub loop-i-preserved : goal.loop-i-preserved
loop-i-preserved c =
    lists_next c.args.drawing.now c.in-Some.points.now c.loop-i.i c.index-points-i.result c.index-points-i-in-loop-i.result
    c.loop-i.list.items c.note_link.new.list.items (omega arith) c.loop-i-test.true c.index-points-i.is
    c.index-points-i-in-loop-i.is c.loop-i.invariant c.in_ok-note_link.ensures

-- at the end all are listed, and no other original has the id
pub returns : goal.returns
returns c =
    let d = c.args.drawing.now in
    let points = c.in-Some.points.now in
    lists_chain d c.args.id points c.loop-i.list.items c.in-Some.ensures.chain
    (subst (λ (l : List GridPoint). ListsLinks d l c.loop-i.list.items)
    (take_all c.loop-i.i points c.loop-i-test.false) c.loop-i.invariant)
