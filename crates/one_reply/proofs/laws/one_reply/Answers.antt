use Rattle.query_batch.specs.Answers.{TellsLine}
use Rattle.one_reply.proofs.OneQuery.{one_query}
use Rattle.one_reply.proofs.OneLine.{one_of_batch, one_joined}
use Rattle.one_reply.proofs.laws.one_reply.Goals as goal

-- the lemmas are the law itself
pub returns-clause-query : goal.returns-clause-query
returns-clause-query c q s first second latest = one_query q s latest first second

pub returns-clause-batch_line : goal.returns-clause-batch_line
returns-clause-batch_line c line s first second latest = one_of_batch line s latest first second

pub returns-clause-batch : goal.returns-clause-batch
returns-clause-batch c lines s first second latest =
    one_joined (TellsLine s) (λ line one other. one_of_batch line s latest one other) lines first second
