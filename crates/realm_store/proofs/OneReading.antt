-- This file shows that two files have one reading: one state with one place, or one damage.
use Rattle.std.proofs.Common.{◌≡◌, true, Option}
use Rattle.realm_insert.specs.State.{State}
use Rattle.realm_pages.specs.declared.damage.Damage.{Damage}
use Rattle.realm_files.specs.Stands.{Files}
use Rattle.realm_files.specs.Keeping.{KnowsGate}
use Rattle.realm_files.specs.declared.place.Place.{Place}
use Rattle.realm_files.proofs.OneReading as of_files
use Rattle.realm_store.specs.Stands.{meaning, StandsAt, StandsFor}
use Rattle.realm_store.specs.Keeping.{Kept, RestsAt, StandsGated}
use Rattle.realm_store.specs.Damages.{IsDamaged}
use Rattle.realm_store.proofs.LedOnce.{opens_once, leads_once}

-- a payload opens one state, and a record leads to one
pub stands_once : (files : Files) (s t : State) (p q : Option Place) → StandsAt files s p → StandsAt files t q → (s ≡ t) × (p ≡ q)
stands_once files s t p q = of_files.stands_once meaning opens_once leads_once files s t p q

pub one_reading : (d : Damage) (files : Files) (state : State) → IsDamaged d files → StandsFor files state → ⊥
one_reading d files state = of_files.none_damaged meaning opens_once leads_once files d state

pub damaged_once : (d e : Damage) (files : Files) → IsDamaged d files → IsDamaged e files → d ≡ e
damaged_once d e files = of_files.damaged_once meaning opens_once leads_once files d e

-- what is kept of files that stand with their next gate has that gate, and their state
pub gate_is_kept : (files : Files) (state : State) (kept : Kept) → StandsGated files state → RestsAt kept files
    → KnowsGate kept files → (kept.has_gate ≡ true) × (kept.state ≡ state)
gate_is_kept files state kept gated rests knows = (
  of_files.has_gate meaning opens_once leads_once files gated rests knows,
  (stands_once files kept.state state kept.place gated.0 rests.stands gated.1.stands).0,
)
