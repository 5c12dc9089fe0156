use Rattle.realm_drawing.proofs.KeptPieces.{key_is_listed, key_where_piece, kept_keyed}
use Rattle.realm_drawing.proofs.drawing.Drawing.key.Goals as goal

-- the key that the registry has is the one that is listed
pub returns-clause-key : goal.returns-clause-key
returns-clause-key c =
    let inside = c.self.inside in
    rw (c.key.ensures.key, ← c.self.view_is) (key_is_listed inside.explicit inside.originals _ _)

-- and it has one for each piece
pub returns-clause-piece : goal.returns-clause-piece
returns-clause-piece c = rw (c.key.ensures.key, ← c.self.view_is) (key_where_piece _ _ _ c.self.invariant _)

pub returns-clause-keyed : goal.returns-clause-keyed
returns-clause-keyed c = rw (← c.self.view_is) (kept_keyed _ _ _ c.self.invariant)
