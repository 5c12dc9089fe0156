use Rattle.chain_laws.proofs.StepsAdd.{step_adds_link, step_shortens_none, step_keeps_most, links_are_few}
use Rattle.chain_laws.proofs.laws.steps_end.Goals as goal

-- the lemmas are the law itself
pub returns-clause-adds : goal.returns-clause-adds
returns-clause-adds c = step_adds_link

pub returns-clause-shortens_none : goal.returns-clause-shortens_none
returns-clause-shortens_none c = step_shortens_none

pub returns-clause-same_bound : goal.returns-clause-same_bound
returns-clause-same_bound c = step_keeps_most

pub returns-clause-bound : goal.returns-clause-bound
returns-clause-bound c = links_are_few
