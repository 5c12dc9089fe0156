use Rattle.some_answer.proofs.LinesAnswered.{some_answer}
use Rattle.some_answer.proofs.laws.some_answer.Goals as goal

-- the lemma is the law itself
pub returns : goal.returns
returns c = some_answer
