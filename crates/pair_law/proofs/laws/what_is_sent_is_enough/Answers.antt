use Rattle.pair_law.proofs.Deliveries.{catches_up}
use Rattle.pair_law.proofs.laws.what_is_sent_is_enough.Goals as goal

-- the records behind its state are sent, and each of them comes next when it is its turn
pub returns : goal.returns
returns c = λ records now start end turns history here d. catches_up records now history start end here turns d
