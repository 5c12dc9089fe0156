use Rattle.hook_chain.proofs.HookLaw.{one_hook}
use Rattle.hook_chain.proofs.laws.one_hook.Goals as goal

-- the lemma is the law itself
pub returns : goal.returns
returns c = one_hook
