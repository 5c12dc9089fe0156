-- This file shows that each step keeps all chains valid.
use Rattle.std.proofs.Common.{subst, sym}
use Rattle.grid_base.specs.Drawing.{Drawing}
use Rattle.grid_base.specs.declared.kinds.Step.{Step}
use Rattle.hook_chain.specs.Steps.{Permitted}
use Rattle.hook_chain.specs.StandingChains.{AllValid}
use Rattle.chain_laws.proofs.RedrawnOriginals.{redrawn_all_valid}
use Rattle.chain_laws.proofs.StepPaths.{step_paths}

-- its paths may stand for its pieces in each chain
pub step_keeps_chains : (d e : Drawing) (step : Step) → AllValid d → Permitted d step e → AllValid e
step_keeps_chains d e step valid permitted =
    let drawn = step_paths d e step permitted in
    subst AllValid (sym drawn.leads) (redrawn_all_valid drawn.paths d.originals drawn.sound valid)
