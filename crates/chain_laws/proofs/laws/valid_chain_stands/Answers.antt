use Rattle.chain_laws.proofs.StandingChains.{stands_for}
use Rattle.chain_laws.proofs.laws.valid_chain_stands.Goals as goal

-- the lemma is the law itself
pub returns : goal.returns
returns c = stands_for
