use Rattle.drawing_settles.proofs.CrossingSteps.{some_step}
use Rattle.drawing_settles.proofs.laws.some_step.Goals as goal

-- the lemma is the law itself
pub returns : goal.returns
returns c = some_step
