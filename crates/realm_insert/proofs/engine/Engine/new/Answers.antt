use Rattle.realm_insert.proofs.EmptyDrawing.{empty_is_settled}
use Rattle.realm_insert.proofs.engine.Engine.new.Goals as goal

-- nothing is drawn
pub invariant_of-result : goal.invariant_of-result
invariant_of-result c = λ unspent.
    empty_is_settled c.new.result c.new-2.result c.new-3.result c.new-4.result.items c.new.ensures c.new-2.ensures
    c.new-3.ensures c.new-4.ensures.items
