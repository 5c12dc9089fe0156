use Rattle.std.proofs.Common.{take}
use Rattle.component_registry.specs.Registry.{IsSound}
use Rattle.realm_drawing.specs.Fresh.{ListsFresh}
use Rattle.realm_drawing.specs.Shares.{KeepsKeys, HasMore}
use Rattle.realm_drawing.proofs.shares.add_shares.Given as goal

abbrev pub invariant-loop-share : goal.invariant-loop-share
invariant-loop-share l = record {
  owners : HasMore l.fn.registry l.registry (take l.share-index l.shares);
  fresh : ListsFresh l.fn.registry l.registry l.fresh.items;
  keys : KeepsKeys l.fn.registry l.registry;
  sound : IsSound l.registry;
}
