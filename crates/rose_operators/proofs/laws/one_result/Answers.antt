use Rattle.rose_operators.proofs.laws.one_result.Goals as goal
use Rattle.rose_operators.proofs.OneResult.{one_result}

-- the lemma is the law itself
pub returns : goal.returns
returns c = one_result
