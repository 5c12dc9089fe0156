-- The gate behind which the next record is to be written. No public clause cites this file.
use Rattle.std.specs.Prelude.{◌≡◌, true, false, Some}
use Rattle.realm_pages.specs.Generations.{Generation}
use Rattle.realm_insert.specs.Snapshots.{payload_of}
use Rattle.realm_files.specs.declared.place.Place.{Place}
use Rattle.realm_files.specs.Stands.{numbered}
use Rattle.realm_files.specs.Writing.{place_for, wants_generation, next_generation, version_now}
use Rattle.realm_store.specs.declared.gates.NextGate.{NextGate}
use Rattle.realm_store.specs.declared.gates.NextGate.TheVariants.{Next, Missing, Waiting, Last}
use Rattle.realm_store.specs.Stands.{meaning, Opens}
use Rattle.realm_store.specs.Keeping.{Kept}
use Rattle.realm_store.specs.Making.{next_gate, LacksGeneration}
use Rattle.realm_store.specs.Renewing.{HasLastGeneration}

-- a record wants a generation before it, and this is the next one, with the payload of the state that is kept; the gate will
-- stand behind it
pub record IsOwn (kept : Kept) (place : Place) (g : Generation) : Type 0 where
  pub wanted : wants_generation kept.place ≡ true
  pub greater : HasLastGeneration kept → ⊥
  pub is : g ≡ numbered version_now (next_generation kept.place) (payload_of kept.state)
  pub opens : Opens (payload_of kept.state) kept.state
  pub place_is : place ≡ place_for meaning kept

-- none is wanted, and the next gate that is kept is this one
abbrev pub IsThere : Kept → Place → Type 0
IsThere kept place = (wants_generation kept.place ≡ false) × (kept.place ≡ Some place)

-- It is the gate of the next record: behind a generation of its own where one is wanted, or where none greater is left only its
-- place is known; and there or missing as is kept.
abbrev pub IsGateFor : NextGate → Kept → Type 0
IsGateFor (Next place pages) kept = IsOwn kept place pages
IsGateFor (Missing place) kept = IsThere kept place × (kept.has_gate ≡ false)
IsGateFor (Waiting place) kept = IsThere kept place × (kept.has_gate ≡ true)
IsGateFor (Last next) kept = LacksGeneration kept × (next ≡ next_gate kept)
