use Rattle.component_registry.proofs.Seen.{piece_has_key}
use Rattle.component_registry.proofs.holdings.Holdings.piece.Goals as goal

-- the slab has the piece under its key
pub returns : goal.returns
returns c = record {
  piece = λ s.
      let stored = piece_has_key c.self.inside.pieces c.self.inside.keys c.self.invariant c.args.key s in
      rw (c.copied.ensures, c.get.ensures, ← c.self.view_is) stored;
}
