use Rattle.one_reply.proofs.OnePayload.{one_payload}
use Rattle.one_reply.proofs.SomePayload.{some_payload}
use Rattle.one_reply.proofs.laws.one_payload.Goals as goal

-- the lemmas are the law itself
pub returns-clause-one : goal.returns-clause-one
returns-clause-one c = one_payload

pub returns-clause-some : goal.returns-clause-some
returns-clause-some c = some_payload
