use Rattle.pair_law.proofs.OneOutput.{same_run}
use Rattle.pair_law.proofs.laws.lines_have_one_output.Goals as goal

-- the outcome of a line is the first whose cause holds, and causes speak of the state and the place alone
pub returns : goal.returns
returns c = λ start again end other turns also same lines run then. same_run start again end other turns also same lines run then
