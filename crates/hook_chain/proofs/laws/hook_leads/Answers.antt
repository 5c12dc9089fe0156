use Rattle.hook_chain.proofs.HookLaw.{hook_leads, hook_has_point}
use Rattle.hook_chain.proofs.laws.hook_leads.Goals as goal

-- in each case of the definition
pub returns-clause-ends : goal.returns-clause-ends
returns-clause-ends c = hook_leads

pub returns-clause-by_point : goal.returns-clause-by_point
returns-clause-by_point c = hook_has_point
