use Rattle.std.proofs.Common.{take}
use Rattle.component_registry.specs.Registry.{IsSound}
use Rattle.realm_drawing.specs.Shares.{KeepsKeys, HasFewer}
use Rattle.realm_drawing.proofs.shares.drop_shares.Given as goal

abbrev pub invariant-loop-share : goal.invariant-loop-share
invariant-loop-share l = record {
  owners : HasFewer l.fn.registry l.registry (take l.share-index l.shares);
  keys : KeepsKeys l.fn.registry l.registry;
  sound : IsSound l.registry;
}
