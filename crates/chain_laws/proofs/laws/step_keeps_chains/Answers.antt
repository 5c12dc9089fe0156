use Rattle.chain_laws.proofs.StepsKeep.{step_keeps_chains}
use Rattle.chain_laws.proofs.laws.step_keeps_chains.Goals as goal

-- the lemma is the law itself
pub returns : goal.returns
returns c = step_keeps_chains
