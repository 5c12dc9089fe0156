-- A group as a store holds it: with the engine of the state at its begin. No public clause cites this file.
use Rattle.std.specs.Prelude.{◌≡◌, ◌<◌, ◌++◌, ◌∷◌, [], Bool, false, length, Option, Some, None, IfSome}
use Rattle.record_codec.specs.declared.entry.Entry.{Entry}
use Rattle.realm_insert.specs.State.{State, SpendableState}
use Rattle.realm_files.specs.declared.place.Place.{Place}
use Rattle.realm_store.specs.declared.grouping.OpenGroup.{OpenGroup}
use Rattle.realm_store.specs.Leading.{LeadOnBy}
use Rattle.realm_store.specs.Keeping.{Kept, kept_at, Group}
use Rattle.realm_store.specs.Making.{HasRoom}
use Rattle.realm_store.specs.NextGates.{IsGateFor}

-- what the files keep of an engine with this state: where a group is open, the state at its begin
abbrev pub filed_state : State → Option OpenGroup → State
filed_state state None = state
filed_state state (Some held) = held.begun.state

-- a group is seen as the state that its changes have led to, and their entries
abbrev pub group_seen : State → Option OpenGroup → Option Group
group_seen state None = None
group_seen state (Some held) = Some (record { state = state; entries = held.entries })

-- the same group, with one entry more
abbrev pub with_entry : OpenGroup → Entry → OpenGroup
with_entry held e = record { begun = held.begun; entries = held.entries ++ e ∷ []; gate = held.gate }

-- what the files keep while it is open
abbrev pub kept_begun : OpenGroup → Option Place → Bool → Kept
kept_begun held place has_gate = kept_at held.begun.state place has_gate

-- Its entries lead on from its begin to this state, and the gate of its record is that of what is kept. Where it has an entry,
-- there is room for its record.
pub record IsOpen (state : State) (place : Option Place) (has_gate : Bool) (held : OpenGroup) : Type 0 where
  pub ready : held.begun.spent ≡ false
  pub leads : LeadOnBy held.begun.state held.entries state
  pub gate : IsGateFor held.gate (kept_begun held place has_gate)
  pub room : 0 < length held.entries → HasRoom (kept_begun held place has_gate)

-- what a store holds that isn't spent
pub record Holds (engine : SpendableState) (place : Option Place) (has_gate : Bool) (group : Option OpenGroup) : Type 0 where
  pub ready : engine.spent ≡ false
  pub is_open : IfSome group (IsOpen engine.state place has_gate)
