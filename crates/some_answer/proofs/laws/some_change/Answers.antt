use Rattle.some_answer.proofs.SomeChange.{some_change}
use Rattle.some_answer.proofs.laws.some_change.Goals as goal

-- the lemma is the law itself
pub returns : goal.returns
returns c = some_change
