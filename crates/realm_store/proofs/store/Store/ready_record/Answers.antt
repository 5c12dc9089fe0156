use Rattle.std.proofs.Common.{refl}
use Rattle.realm_store.proofs.store.Store.ready_record.Goals as goal

-- it isn't the next one
pub returns-then-r-have-clause-in_turn : goal.returns-then-r-have-clause-in_turn
returns-then-r-have-clause-in_turn c = λ never. absurd (never c.changes-have.result refl)
