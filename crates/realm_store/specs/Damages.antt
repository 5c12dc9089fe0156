-- Files that stand for no state, and the fault that decides.
use Rattle.realm_pages.specs.declared.damage.Damage.{Damage}
use Rattle.realm_files.specs.Stands.{Files}
use Rattle.realm_files.specs.Damages as files
use Rattle.realm_store.specs.Stands.{meaning}

-- What is wrong with heads and pages comes first, then a payload that is none of a valid state, and then the first record
-- that doesn't lead on.
abbrev pub IsDamaged : Damage → Files → Type 0
IsDamaged = files.IsDamaged meaning
