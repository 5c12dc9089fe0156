-- Files that stand for nothing, and the fault that decides.
use Rattle.std.specs.Prelude.{◌≡◌, ◌⊎◌, ◌+◌, ℕ, List, length}
use Rattle.outside_world.specs.declared.world.FileName.{FileName}
use Rattle.record_codec.specs.declared.record.Record.{Record}
use Rattle.realm_journal.specs.Gates.{IsOpenAt}
use Rattle.realm_pages.specs.Generations.{Generation, gate_of}
use Rattle.realm_pages.specs.Finding.{HoldsNewest}
use Rattle.realm_pages.specs.Damages.{HasDamagedPages}
use Rattle.realm_pages.specs.declared.damage.Damage.{Damage}
use Rattle.realm_pages.specs.declared.damage.Damage.TheVariants.{BadSnapshot, BadRecord}
use Rattle.realm_files.specs.Meaning.{Meaning}
use Rattle.realm_files.specs.Rows.{AreLed, LacksRecord}
use Rattle.realm_files.specs.Stands.{Files}

-- the payload of the newest file opens no state
pub record IsNoState {S : Type 0} (m : Meaning S) (files : Files) (damage : Damage) : Type 0 where
  pub file : FileName
  pub generation : Generation
  pub newest : HoldsNewest files file generation
  pub none : (state : S) → m.opens generation.payload state → ⊥
  pub is : damage ≡ BadSnapshot file

-- these records lead on, the gate behind them is open, and no record there leads on
pub record EndsBadly {S : Type 0} (m : Meaning S) (start : S) (records : List Record) (at : ℕ)
    (file : List ℕ) : Type 0 where
  pub state : S
  pub place : ℕ
  pub led : AreLed m start records at file state place
  pub is_open : IsOpenAt place file
  pub lacks : LacksRecord m state place file

-- behind the payload of the newest file the record with this number, from 1, is bad
pub record HasBadRecord {S : Type 0} (m : Meaning S) (files : Files) (damage : Damage) : Type 0 where
  pub file : FileName
  pub generation : Generation
  pub newest : HoldsNewest files file generation
  pub first : S
  pub opens : m.opens generation.payload first
  pub records : List Record
  pub ends : EndsBadly m first records (gate_of generation) (files file)
  pub is : damage ≡ BadRecord file (length records + 1)

-- The fault that decides: what is wrong with heads and pages comes first, then the payload, then the records.
abbrev pub IsDamaged : {S : Type 0} → Meaning S → Damage → Files → Type 0
IsDamaged m damage files =
    HasDamagedPages damage files ⊎ (IsNoState m files damage ⊎ HasBadRecord m files damage)
