use Rattle.std.proofs.Common.{subst}
use Rattle.hook_chain.specs.StandingChains.{AllStand}
use Rattle.realm_store.proofs.looking.is_sound.Goals as goal

-- what was looked at is the drawing of the state
pub returns : goal.returns
returns c = record {
  valid = c.is_valid.ensures.valid;
  chains = subst AllStand c.drawing.ensures.drawing c.chain.ensures.stand;
}
