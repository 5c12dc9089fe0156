use Rattle.realm_insert.proofs.RestoredIndex.{has_none, has_pieces, has_next, has_all}
use Rattle.realm_insert.proofs.restoring.index_of.Goals as goal

pub loop-s-init : goal.loop-s-init
loop-s-init c = has_none c.args.drawing.now c.args.pieces.now c.new-index.result c.new-index.ensures

-- all that is there is a piece
pub put_if_missing-requires : goal.put_if_missing-requires
put_if_missing-requires c = record {
  pieces = has_pieces c.args.drawing.now c.args.pieces.now c.loop-s.s-index c.loop-s.index c.loop-s.invariant;
}

-- one more is there
pub loop-s-preserved : goal.loop-s-preserved
loop-s-preserved c =
    has_next c.args.drawing.now c.args.pieces.now c.loop-s.s-index c.s-item.result c.loop-s.index c.put_if_missing.new.index
    c.loop-s-test.true c.s-item.is c.loop-s.invariant c.in_ok-put_if_missing.ensures

-- at the end all are
pub returns : goal.returns
returns c =
    has_all c.args.drawing.now c.args.pieces.now c.loop-s.s-index c.loop-s.index c.loop-s-test.false c.requires.keyed
    c.requires.all c.loop-s.invariant
