-- What a change makes of what is kept of the files, and what it is answered.
use Rattle.std.specs.Prelude.{◌≡◌, ◌⊎◌, ◌+◌, ◌-◌, ◌<◌, ◌≤◌, ◌^◌, ℕ, true, List, [], ◌∷◌, ◌++◌, length, Some, None, MatchOption}
use Rattle.grid_base.specs.declared.kinds.Step.{Step}
use Rattle.line_grammar.specs.declared.command.Change.{Change}
use Rattle.line_grammar.specs.Spelling.{change_text}
use Rattle.record_codec.specs.declared.entry.Entry.{Entry}
use Rattle.record_codec.specs.declared.record.Record.{Record}
use Rattle.record_codec.specs.Spelling.{record_text}
use Rattle.realm_insert.specs.State.{State}
use Rattle.realm_insert.specs.Next.{Next}
use Rattle.realm_insert.specs.Refusals.{IsAccepted, IsRefusedBy}
use Rattle.realm_insert.specs.declared.refusal.Refusal.{Refusal}
use Rattle.realm_insert.specs.declared.refusal.Refusal.TheVariants.{Full, Generations}
use Rattle.realm_files.specs.declared.place.Place.{Place}
use Rattle.realm_files.specs.Writing.{place_for, wants_generation, with_gate}
use Rattle.realm_store.specs.Sound.{IsSound}
use Rattle.realm_store.specs.Stands.{meaning}
use Rattle.realm_store.specs.Keeping.{Kept, Group, SpendableKept, without_group}
use Rattle.realm_store.specs.Leading.{LeadOnBy}
use Rattle.realm_store.specs.Renewing.{HasLastGeneration}
use Rattle.realm_store.specs.Replies.{ok_reply}

-- ---- the gate behind which a record goes

-- the place where the next record's gate stands, or will stand behind a generation of its own, which keeps this state
abbrev pub next_gate : Kept → ℕ
next_gate kept = (place_for meaning kept).next

-- no record more may be written: the place of its gate would be too far
abbrev pub IsFull : Kept → Type 0
IsFull kept = 2 ^ 61 ≤ next_gate kept

-- the record would come behind a generation of its own, and there is no greater one
abbrev pub LacksGeneration : Kept → Type 0
LacksGeneration kept = (wants_generation kept.place ≡ true) × HasLastGeneration kept

-- a record more may be written
pub record HasRoom (kept : Kept) : Type 0 where
  pub gate : next_gate kept < 2 ^ 61
  pub generation : LacksGeneration kept → ⊥

-- none may be, for this cause: that the file is full comes first
abbrev pub LacksRoom : Kept → Refusal → Type 0
LacksRoom kept word =
    (IsFull kept × (word ≡ Full)) ⊎ ((IsFull kept → ⊥) × LacksGeneration kept × (word ≡ Generations))

-- ---- a change outside a group

-- the entry of a change that these steps settled
abbrev pub entry_of : Change → List Step → Entry
entry_of c steps = record { line = change_text c; trace = steps }

-- the record of the change with this number, which these steps settled
abbrev pub record_of : Change → List Step → ℕ → Record
record_of c steps number = record { number = number; entries = entry_of c steps ∷ [] }

-- the place behind this record, in the file of its gate and in the same generation
abbrev pub place_behind : Kept → Record → Place
place_behind kept r = with_gate (place_for meaning kept) (next_gate kept + 1 + length (record_text r))

-- the record stands behind the gate that waited, with a gate behind it, and leads to this state
abbrev pub kept_behind : Kept → Record → State → Kept
kept_behind kept r state = record { state = state; place = Some (place_behind kept r); has_gate = true }

-- the change is made by these steps; its record stands behind the gate that waited, with a gate behind it
pub record Makes (c : Change) (steps : List Step) (old new : Kept) : Type 0 where
  pub next : Next old.state c steps new.state
  pub place : new.place ≡ Some (place_behind old (record_of c steps new.state.changes))
  pub has_gate : new.has_gate ≡ true
  -- there was room for it
  pub room : HasRoom old

-- the change is made by some steps, which leads to a sound state, and gets this reply
pub record IsMade (c : Change) (old : Kept) (reply : List ℕ) (new : Kept) : Type 0 where
  pub steps : List Step
  pub makes : Makes c steps old new
  pub sound : IsSound new.state
  pub reply_is : reply ≡ ok_reply new.state.changes (length steps) old.state.next_id (new.state.next_id - old.state.next_id)

-- a cause in the state refuses the change, or it has none and there is no room for its record
abbrev pub IsRefusedFor : Change → State → Kept → Refusal → Type 0
IsRefusedFor c state kept word = IsRefusedBy c state word ⊎ (IsAccepted c state × LacksRoom kept word)

-- ---- groups

-- the change joins the group, which leads to a sound state, and gets this reply
pub record Joins (c : Change) (kept : Kept) (old : Group) (reply : List ℕ) (new : Group) : Type 0 where
  pub steps : List Step
  pub next : Next old.state c steps new.state
  pub entries : new.entries ≡ old.entries ++ entry_of c steps ∷ []
  -- there is room for the record of the group
  pub room : HasRoom kept
  pub sound : IsSound new.state
  pub reply_is : reply ≡ ok_reply new.state.changes (length steps) old.state.next_id (new.state.next_id - old.state.next_id)

-- where no group is open, the change is made and written; else it joins the group, and what is kept of the files stays
abbrev pub Commits : Change → SpendableKept → List ℕ → SpendableKept → Type 0
Commits c old reply new = MatchOption old.group
    (IsMade c old.kept reply new.kept × (new.group ≡ None))
    (λ group. (new.kept ≡ old.kept) × ((more : Group) × (new.group ≡ Some more) × Joins c old.kept group reply more))

-- the record of a group that was begun here
abbrev pub group_record : Kept → Group → Record
group_record kept group = record { number = kept.state.changes + 1; entries = group.entries }

-- what is kept when a group with these entries has ended: nothing is written of no change
abbrev pub kept_with : List Entry → Kept → Group → Kept
kept_with [] kept group = kept
kept_with (e ∷ more) kept group = kept_behind kept (group_record kept group) group.state

-- the open group ends: its entries lead on from what is kept, and stand there as one record then
pub record Ends (old : SpendableKept) (count : ℕ) (new : SpendableKept) : Type 0 where
  pub group : Group
  pub was_open : old.group ≡ Some group
  pub count_is : count ≡ length group.entries
  pub leads : LeadOnBy old.kept.state group.entries group.state
  pub new_is : new ≡ without_group (kept_with group.entries old.kept group)
  pub sound : IsSound group.state
