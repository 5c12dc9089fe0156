use Rattle.hook_chain.proofs.Existence.{has_hook}
use Rattle.hook_chain.proofs.laws.hook_exists.Goals as goal

-- the walks from both ends come to the point
pub returns : goal.returns
returns c t x ordered near = let there = has_hook t x ordered near in (there.chain, there.is.hook)
