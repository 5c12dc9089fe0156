-- What a store keeps of the files between two changes, and the group of changes that is open.
use Rattle.std.specs.Prelude.{◌≡◌, ℕ, Bool, true, false, List, length, Option, Some, None, IsSome}
use Rattle.outside_world.specs.View.{View}
use Rattle.record_codec.specs.declared.entry.Entry.{Entry}
use Rattle.realm_insert.specs.State.{State, empty_state}
use Rattle.realm_files.specs.Stands.{Files}
use Rattle.realm_files.specs.Keeping as files
use Rattle.realm_files.specs.declared.place.Place.{Place}
use Rattle.realm_store.specs.Stands.{meaning}

-- the state, the place of the next gate, where a file counts, and whether that gate's byte is there
abbrev pub Kept : Type 0
Kept = files.Kept State

-- this state, at this place
abbrev pub kept_at : State → Option Place → Bool → Kept
kept_at state place has_gate = record { state = state; place = place; has_gate = has_gate }

-- the same place, with this state
abbrev pub with_state : State → Kept → Kept
with_state state kept = record { state = state; place = kept.place; has_gate = kept.has_gate }

-- no file counts
abbrev pub nothing_kept : Kept
nothing_kept = record { state = empty_state; place = None; has_gate = true }

-- the files stand for this state and place, and reach to the next gate
abbrev pub RestsAt : Kept → Files → Type 0
RestsAt = files.RestsAt meaning

-- a crash now leaves each file as it reads, and so they rest at what is kept
abbrev pub AllRest : Kept → View → Type 0
AllRest = files.AllRest meaning

-- the files stand for this state, and the byte of their next gate is there, or neither counts
abbrev pub StandsGated : Files → State → Type 0
StandsGated = files.StandsGated meaning

-- an open group: the state that its changes have led to, and their entries
pub record Group : Type 0 where
  pub state : State
  pub entries : List Entry

-- A store: what it keeps of the files, the group where one is open, and whether it is spent, so that nothing is said of the
-- rest. While a group is open, the files and what is kept of them stand as they did at its begin.
pub record SpendableKept : Type 0 where
  pub kept : Kept
  pub group : Option Group
  pub spent : Bool

-- the state of the group, where one is open
abbrev pub state_with : State → Option Group → State
state_with state None = state
state_with state (Some group) = group.state

-- the state at present
abbrev pub present : SpendableKept → State
present s = state_with s.kept.state s.group

-- a group is open
abbrev pub HasGroup : SpendableKept → Type 0
HasGroup s = IsSome s.group

-- none is open
abbrev pub HasNoGroup : SpendableKept → Type 0
HasNoGroup s = s.group ≡ None

-- a store with no group, and one with this group
abbrev pub without_group : Kept → SpendableKept
without_group kept = record { kept = kept; group = None; spent = false }

abbrev pub with_group : Kept → Group → SpendableKept
with_group kept group = record { kept = kept; group = Some group; spent = false }

-- how many changes the group has, 0 where none is open
abbrev pub changes_of : Option Group → ℕ
changes_of None = 0
changes_of (Some group) = length group.entries

abbrev pub changes_in : SpendableKept → ℕ
changes_in s = changes_of s.group
