use Rattle.chain_laws.proofs.OneChains.{one_chain_steps, one_chain_settled}
use Rattle.chain_laws.proofs.laws.one_chain_stays_one.Goals as goal

-- the lemmas are the law itself
pub returns-clause-step : goal.returns-clause-step
returns-clause-step c = one_chain_steps

pub returns-clause-settled : goal.returns-clause-settled
returns-clause-settled c = one_chain_settled
