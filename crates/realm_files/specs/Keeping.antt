-- What is kept of the files between two changes.
use Rattle.std.specs.Prelude.{◌≡◌, ◌<◌, Bool, true, length, Option, Some}
use Rattle.outside_world.specs.View.{View, AllStable}
use Rattle.realm_files.specs.Meaning.{Meaning}
use Rattle.realm_files.specs.Stands.{Files, StandsAt, ReachesTo}
use Rattle.realm_files.specs.declared.place.Place.{Place}

-- The state, the place of the next gate, where a file counts, and whether that gate's byte is there. Where it
-- isn't, a crash while it is added to a file of version 2 may leave an open gate behind the last record, of which
-- nothing is said.
pub record Kept (S : Type 0) : Type 0 where
  pub state : S
  pub place : Option Place
  pub has_gate : Bool

-- the state, and the place of a next gate that is there
abbrev pub at_gate : {S : Type 0} → S → Place → Kept S
at_gate state place = record { state = state; place = Some place; has_gate = true }

-- the files stand for the state and place that are kept, and reach to the next gate
pub record RestsAt {S : Type 0} (m : Meaning S) (kept : Kept S) (files : Files) : Type 0 where
  pub stands : StandsAt m files kept.state kept.place
  pub reach : ReachesTo files kept.place kept.has_gate

-- A crash now leaves each file as it reads, and so they rest at what is kept.
pub record AllRest {S : Type 0} (m : Meaning S) (kept : Kept S) (v : View) : Type 0 where
  pub stable : AllStable v
  pub rests : RestsAt m kept v.reads

-- where the byte of the next gate is within its file, this is known
abbrev pub KnowsGate : {S : Type 0} → Kept S → Files → Type 0
KnowsGate kept files = (place : Place) → kept.place ≡ Some place → place.next < length (files place.file) → kept.has_gate ≡ true

-- the files stand for the state, and the byte of their next gate is there; or neither counts, and the state is the empty one
abbrev pub StandsGated : {S : Type 0} → Meaning S → Files → S → Type 0
StandsGated m files state =
    (place : Option Place) × RestsAt m (record { state = state; place = place; has_gate = true }) files
