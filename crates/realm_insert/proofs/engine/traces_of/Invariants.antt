use Rattle.std.proofs.Common.{◌≡◌, ◌+◌, min, length, take, All}
use Rattle.record_codec.specs.Traces.{IsTrace}
use Rattle.realm_insert.specs.Snapshots.{traces_in}
use Rattle.realm_insert.proofs.RestoredStates.{AreNumbered}
use Rattle.realm_insert.proofs.engine.traces_of.Given as goal

-- the traces so far have their numbers
abbrev pub invariant-loop-i : goal.invariant-loop-i
invariant-loop-i l = record {
  count : length l.list ≡ min l.changes 16;
  whole : l.passed + length l.list ≡ l.changes;
  are : l.traces.items ≡ traces_in (take l.i l.list);
  numbered : AreNumbered l.passed l.list l.i;
  texts : All (λ kept. IsTrace kept.steps) l.traces.items;
}
