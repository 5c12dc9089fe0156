-- A row of records at the front of bytes, whose changes are made again one after another. No public clause of this
-- crate cites this file.
use Rattle.std.specs.Prelude.{◌≡◌, ◌≤◌, ℕ, false, List, length}
use Rattle.record_codec.specs.declared.record.Record.{Record}
use Rattle.realm_insert.specs.State.{State, SpendableState}
use Rattle.realm_files.specs.Rows.{AreRecords}
use Rattle.realm_files.specs.Damages.{EndsBadly}
use Rattle.realm_store.specs.declared.remaking.RowEnd.{RowEnd}
use Rattle.realm_store.specs.declared.remaking.RowEnd.TheVariants.{Closed, Bad}
use Rattle.realm_store.specs.Stands.{meaning}

-- these records led the engine from the state to its own, up to the closed gate at this place
pub record IsRemadeRow (start : State) (bytes : List ℕ) (end : ℕ) (engine : SpendableState) : Type 0 where
  pub records : List Record
  pub lead : AreRecords meaning start records 0 bytes engine.state end
  pub within : end ≤ length bytes
  pub ready : engine.spent ≡ false

-- so many records lead on from the state, and behind them the row ends badly
pub record IsCutRow (start : State) (bytes : List ℕ) (count : ℕ) : Type 0 where
  pub records : List Record
  pub count_is : count ≡ length records
  pub within : count ≤ length bytes
  pub ends : EndsBadly meaning start records 0 bytes

-- the row was made again to its end, or to where it ends badly
abbrev pub RowRemade : State → List ℕ → RowEnd → SpendableState → Type 0
RowRemade start bytes (Closed end) engine = IsRemadeRow start bytes end engine
RowRemade start bytes (Bad count) engine = IsCutRow start bytes count
