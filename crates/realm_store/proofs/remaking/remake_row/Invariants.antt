use Rattle.std.proofs.Common.{◌-◌, length}
use Rattle.realm_store.proofs.Remakings.{IsLedTo}
use Rattle.realm_store.proofs.remaking.remake_row.Given as goal

abbrev pub invariant-loop-record : goal.invariant-loop-record
invariant-loop-record g l = record { led : IsLedTo l.fn.engine.state l.bytes l.count l.place l.engine }

abbrev pub decreases-loop-record : goal.decreases-loop-record
decreases-loop-record g l = length l.bytes - l.place
