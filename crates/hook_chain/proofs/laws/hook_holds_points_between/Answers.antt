use Rattle.hook_chain.proofs.CloseHooks.{hook_holds}
use Rattle.hook_chain.proofs.HeldPoints.{way_holds}
use Rattle.hook_chain.proofs.laws.hook_holds_points_between.Goals as goal

-- no point is strictly between, and one on the line of a link and beside it is on the link
pub returns-clause-held : goal.returns-clause-held
returns-clause-held c = hook_holds

-- a point strictly between would be held, and it isn't on the link
pub returns-clause-none_between : goal.returns-clause-none_between
returns-clause-none_between c = way_holds
