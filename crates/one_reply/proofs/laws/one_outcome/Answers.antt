use Rattle.one_reply.proofs.OneChange.{made_twice, joins_twice}
use Rattle.one_reply.proofs.OneLine.{one_command, one_outcome}
use Rattle.one_reply.proofs.laws.one_outcome.Goals as goal

-- the lemmas are the law itself
pub returns-clause-line : goal.returns-clause-line
returns-clause-line c = one_outcome

pub returns-clause-change : goal.returns-clause-change
returns-clause-change c = made_twice

pub returns-clause-joined : goal.returns-clause-joined
returns-clause-joined c = joins_twice

pub returns-clause-command : goal.returns-clause-command
returns-clause-command c = one_command
