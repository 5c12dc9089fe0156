use Rattle.hook_chain.proofs.CloseHooks.{hook_close}
use Rattle.hook_chain.proofs.laws.hook_is_close.Goals as goal

-- a bent hook is by its definition, and a straight one lies on the piece
pub returns : goal.returns
returns c = hook_close
