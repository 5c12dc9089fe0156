use Rattle.realm_drawing.proofs.KeptPieces.{KeepsKeys-itself, kept_keyed}
use Rattle.chain_laws.proofs.StandingChains.{all_stand}
use Rattle.realm_drawing.proofs.drawing.Drawing.promises.Goals as goal

-- each fact is one of what is kept
pub returns : goal.returns
returns c =
    let inside = c.self.inside in
    record {
      stand = rw (← c.self.view_is) (all_stand _ c.self.invariant.all_valid);
      keyed = rw (← c.self.view_is) (kept_keyed _ _ _ c.self.invariant);
      keys = rw (← c.self.view_is) (KeepsKeys-itself inside.explicit inside.originals inside.registry);
    }
