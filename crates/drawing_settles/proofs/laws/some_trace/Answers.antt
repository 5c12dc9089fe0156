use Rattle.drawing_settles.proofs.Settling.{some_trace, short, valid_after}
use Rattle.drawing_settles.proofs.laws.some_trace.Goals as goal

-- the lemmas are the law itself
pub returns-clause-some : goal.returns-clause-some
returns-clause-some c = some_trace

pub returns-clause-short : goal.returns-clause-short
returns-clause-short c = short

pub returns-clause-valid : goal.returns-clause-valid
returns-clause-valid c = valid_after
