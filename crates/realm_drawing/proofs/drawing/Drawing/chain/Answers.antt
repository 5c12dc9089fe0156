use Rattle.chain_laws.proofs.StandingChains.{all_stand}
use Rattle.realm_drawing.proofs.drawing.Drawing.chain.Goals as goal

-- all chains are valid
pub returns-clause-stand : goal.returns-clause-stand
returns-clause-stand c = rw (← c.self.view_is) (all_stand _ c.self.invariant.all_valid)
