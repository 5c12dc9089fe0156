-- This file shows that what files stood for when each record was one change, they stand for still.
use Rattle.std.proofs.Common.{Option, refl}
use Rattle.realm_insert.specs.State.{State}
use Rattle.realm_files.specs.Stands.{Files}
use Rattle.realm_files.specs.declared.place.Place.{Place}
use Rattle.realm_files.proofs.Wider.{stands_wider}
use Rattle.realm_store.specs.Stands.{meaning, StandsAt}
use Rattle.realm_store.specs.Before.{meaning_before, StoodBefore}

-- payloads open the same states, and a record of one change leads where it led
pub stand_still : (files : Files) (state : State) (place : Option Place) → StoodBefore files state place → StandsAt files state place
stand_still = stands_wider meaning_before meaning refl (λ payload s opens. opens) (λ s r t led. led.leads)
