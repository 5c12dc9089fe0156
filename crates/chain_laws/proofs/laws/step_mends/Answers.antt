use Rattle.chain_laws.proofs.StepOutcomes.{no_violation_no_step, permitted_is_one}
use Rattle.chain_laws.proofs.laws.step_mends.Goals as goal

-- the lemmas are the law itself
pub returns-clause-only_there : goal.returns-clause-only_there
returns-clause-only_there c = no_violation_no_step

pub returns-clause-one : goal.returns-clause-one
returns-clause-one c = permitted_is_one
