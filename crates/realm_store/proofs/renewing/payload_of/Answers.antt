use Rattle.realm_store.proofs.Payloads.{encoded, opens_again}
use Rattle.realm_store.proofs.renewing.payload_of.Goals as goal

-- the snapshot keeps the state of the engine
pub returns-clause-payload : goal.returns-clause-payload
returns-clause-payload c = encoded _ c.in_ok-snapshot.ensures.kept.1 c.in_ok-payload.ensures

pub returns-clause-opens : goal.returns-clause-opens
returns-clause-opens c =
    let (is, same) = c.in_ok-snapshot.ensures.kept in
    opens_again _ same is c.in_ok-snapshot.ensures.valid
