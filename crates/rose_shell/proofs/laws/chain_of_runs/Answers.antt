use Rattle.rose_shell.proofs.Chains.{chain_survives}
use Rattle.rose_shell.proofs.laws.chain_of_runs.Goals as goal

-- each run is one step of the chain
pub returns : goal.returns
returns g c = chain_survives g.W.Outside g.met.W.Outside.only_now
