use Rattle.std.proofs.Common.{◌≡◌, false, take}
use Rattle.realm_store.specs.Leading.{LeadOnBy}
use Rattle.realm_store.proofs.replaying.replay_entries.Given as goal

abbrev pub invariant-loop-entry : goal.invariant-loop-entry
invariant-loop-entry g l = record {
  ready : l.engine.spent ≡ false;
  lead : LeadOnBy l.fn.engine.state (take l.entry-index l.entries) l.engine.state;
}
