use Rattle.drawing_settles.proofs.Violations.{violated_or_not}
use Rattle.drawing_settles.proofs.laws.violated_or_not.Goals as goal

-- the lemma is the law itself
pub returns : goal.returns
returns c = violated_or_not
