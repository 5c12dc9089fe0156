use Rattle.one_reply.proofs.KeptOnGrid.{kept_on_grid}
use Rattle.one_reply.proofs.SomeReply.{some_reply}
use Rattle.one_reply.proofs.SomeAnswer.{says_or_not, told_line, answered_line}
use Rattle.one_reply.proofs.laws.some_reply.Goals as goal

-- the lemmas are the law itself
pub returns-clause-query : goal.returns-clause-query
returns-clause-query c = some_reply

pub returns-clause-batch_line : goal.returns-clause-batch_line
returns-clause-batch_line c = told_line

pub returns-clause-line : goal.returns-clause-line
returns-clause-line c = answered_line

pub returns-clause-on_grid : goal.returns-clause-on_grid
returns-clause-on_grid c = kept_on_grid

pub returns-clause-said : goal.returns-clause-said
returns-clause-said c = says_or_not
