use Rattle.chain_laws.proofs.Mendings.{mends_at}
use Rattle.chain_laws.proofs.mending.step_in_order.Goals as goal

pub returns-in-At-clause-mends : goal.returns-in-At-clause-mends
returns-in-At-clause-mends c = mends_at c.args.first c.args.second c.in-At.x c.requires c.in-At.ensures.meeting
