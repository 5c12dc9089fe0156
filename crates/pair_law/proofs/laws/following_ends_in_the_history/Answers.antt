use Rattle.pair_law.proofs.Followers.{ends}
use Rattle.pair_law.proofs.laws.following_ends_in_the_history.Goals as goal

-- each line leads from a state of the history to one with no fewer changes
pub returns : goal.returns
returns c = λ records now start end turns history here of run. ends records now history start end turns here of run
