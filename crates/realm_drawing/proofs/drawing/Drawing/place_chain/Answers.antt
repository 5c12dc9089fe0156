use Rattle.realm_drawing.proofs.KeptPieces.{KeepsKeys-itself}
use Rattle.realm_drawing.proofs.drawing.Drawing.place_chain.Goals as goal

-- where it fails all is as it was
pub returns-in_default-clause-keys : goal.returns-in_default-clause-keys
returns-in_default-clause-keys c =
    let inside = c.self.inside in
    rw (← c.self.view_is) (KeepsKeys-itself inside.explicit inside.originals inside.registry)

pub returns-in_err-list-clause-keys : goal.returns-in_err-list-clause-keys
returns-in_err-list-clause-keys c =
    let inside = c.self.inside in
    rw (← c.self.view_is) (KeepsKeys-itself inside.explicit inside.originals inside.registry)
