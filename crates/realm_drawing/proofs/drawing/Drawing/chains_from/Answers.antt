use Rattle.chain_laws.proofs.StandingChains.{all_stand}
use Rattle.realm_drawing.proofs.ChainWalks.{walked_chains}
use Rattle.realm_drawing.proofs.drawing.Drawing.chains_from.Goals as goal

-- ids rise, so each is walked past with the one chain of its id
pub returns-clause-chain : goal.returns-clause-chain
returns-clause-chain c = rw (c.chains_from.ensures, ← c.self.view_is) (walked_chains c.args.id _ c.self.invariant.ids_rise)

-- all chains are valid
pub returns-clause-stand : goal.returns-clause-stand
returns-clause-stand c = rw (← c.self.view_is) (all_stand _ c.self.invariant.all_valid)
