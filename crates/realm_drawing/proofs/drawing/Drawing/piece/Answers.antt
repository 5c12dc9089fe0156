use Rattle.realm_drawing.proofs.KeptPieces.{key_is_listed, kept_keyed}
use Rattle.realm_drawing.proofs.drawing.Drawing.piece.Goals as goal

-- the piece that the registry has under the key is listed with it
pub returns : goal.returns
returns c = record {
  piece = λ s.
      let listed = key_is_listed c.self.inside.explicit c.self.inside.originals c.self.inside.registry s c.args.key in
      let has = c.piece.ensures.piece s in
      rw (← c.self.view_is) (λ is. listed.0 (has.0 is), λ key. has.1 (listed.1 key));
  keyed = rw (← c.self.view_is) (kept_keyed _ _ _ c.self.invariant);
}
