use Rattle.realm_insert.proofs.RemovedOriginals.{rests_unmarked}
use Rattle.realm_insert.proofs.removing.unmark.Goals as goal

-- the pieces stay
pub returns-clause-rest : goal.returns-clause-rest
returns-clause-rest c =
    rests_unmarked c.args.drawing.now c.take_point.new.self c.args.p.now c.args.index.now c.take_point.ensures.taken
    c.piece-keyed.ensures.keyed c.requires.rest
