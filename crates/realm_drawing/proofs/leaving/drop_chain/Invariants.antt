use Rattle.std.proofs.Common.{◌≡◌}
use Rattle.component_registry.specs.Registry.{IsSound}
use Rattle.realm_drawing.specs.Shares.{KeepsKeys}
use Rattle.realm_drawing.specs.Leaving.{LosesShares}
use Rattle.realm_drawing.proofs.LinkShares.{IsAmong}
use Rattle.realm_drawing.proofs.leaving.drop_chain.Given as goal

abbrev pub invariant-loop-i : goal.invariant-loop-i
invariant-loop-i l = record {
  owners : LosesShares l.fn.registry l.registry (λ y. (y.id ≡ l.id) × IsAmong l.points l.i y.piece);
  keys : KeepsKeys l.fn.registry l.registry;
  sound : IsSound l.registry;
}
