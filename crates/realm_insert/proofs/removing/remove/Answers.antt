use Rattle.std.proofs.Common.{sym, subst}
use Rattle.value_geometry.specs.Geometry.{IsOnChainOf}
use Rattle.realm_insert.specs.Indexing.{ListsKeyed}
use Rattle.realm_insert.proofs.RemovedOriginals.{rests_removed}
use Rattle.realm_insert.proofs.removing.remove.Goals as goal

-- what is gone is forgotten
pub returns-clause-rest : goal.returns-clause-rest
returns-clause-rest c =
    let old = c.args.drawing.now in
    let new = c.remove.new.self in
    let lists = subst (ListsKeyed old (λ s. IsOnChainOf old.drawing s c.args.id)) (sym c.as_slice.ensures.value)
    c.in_ok-noted.ensures in
    rests_removed old new c.args.id c.args.index.now c.forget_gone.new.index c.as_slice.result.now c.remove.ensures.removed
    c.remove.ensures.keys c.piece-keyed.ensures.keyed c.requires.rest lists c.forget_gone.ensures
