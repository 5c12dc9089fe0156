-- A record of another store that waits to be written, and its changes that are made. No public clause cites this file.
use Rattle.std.specs.Prelude.{◌≡◌, None}
use Rattle.record_codec.specs.declared.record.Record.{Record}
use Rattle.realm_store.specs.declared.accepting.ReadyRecord.{ReadyRecord}
use Rattle.realm_store.specs.Leading.{Leads}
use Rattle.realm_store.specs.Keeping.{Kept, SpendableKept, with_state}
use Rattle.realm_store.specs.Sound.{IsSound}
use Rattle.realm_store.specs.Making.{HasRoom}
use Rattle.realm_store.specs.NextGates.{IsGateFor}

-- the record waits, and its gate is that of what is kept, which has room
pub record IsReadyRecord (old : Kept) (r : Record) (ready : ReadyRecord) : Type 0 where
  pub gate : IsGateFor ready.gate old
  pub room : HasRoom old
  pub record_is : ready.record ≡ r

-- the record leads on from what is kept to what is held at the same place, which is sound
pub record IsRemade (old : Kept) (r : Record) (new : SpendableKept) : Type 0 where
  pub leads : Leads old.state r new.kept.state
  pub same_place : new.kept ≡ with_state new.kept.state old
  pub alone : new.group ≡ None
  pub sound : IsSound new.kept.state
