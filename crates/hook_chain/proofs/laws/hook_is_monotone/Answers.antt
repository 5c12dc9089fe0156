use Rattle.hook_chain.proofs.Existence.{hook_monotone}
use Rattle.hook_chain.proofs.laws.hook_is_monotone.Goals as goal

-- each hook is the one that the walks make up
pub returns : goal.returns
returns c = hook_monotone
