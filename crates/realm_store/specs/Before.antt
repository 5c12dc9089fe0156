-- What records meant before there were groups: one change each.
use Rattle.std.specs.Prelude.{◌≡◌, length, Option}
use Rattle.record_codec.specs.declared.record.Record.{Record}
use Rattle.realm_insert.specs.State.{State, empty_state}
use Rattle.realm_insert.specs.Snapshots.{payload_of}
use Rattle.realm_files.specs.Meaning.{Meaning}
use Rattle.realm_files.specs.Stands.{Files}
use Rattle.realm_files.specs.Stands as files
use Rattle.realm_files.specs.declared.place.Place.{Place}
use Rattle.realm_store.specs.Leading.{Leads}
use Rattle.realm_store.specs.Stands.{Opens}

-- the record has one change, and leads on
pub record LedBefore (old : State) (r : Record) (new : State) : Type 0 where
  pub one : length r.entries ≡ 1
  pub leads : Leads old r new

-- what payloads and records meant, and more: they are read by the present grid, which is wider
abbrev pub meaning_before : Meaning State
meaning_before = record { empty = empty_state; payload = payload_of; opens = Opens; leads = LedBefore }

-- files stood for this state then, with the place of the next gate
abbrev pub StoodBefore : Files → State → Option Place → Type 0
StoodBefore = files.StandsAt meaning_before
