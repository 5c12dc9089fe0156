-- This file shows what is seen of a group that a store holds, and what a change makes of it.
use Rattle.std.proofs.Common.{◌≡◌, ◌⊎◌, inl, inr, ⊎_elim, Bool, true, false, List, [], ◌∷◌, ◌++◌, Option, Some, None, refl, sym, ◌∙◌, ap, subst}
use Rattle.std.specs.Prelude.{◌↔◌, IsTrue, IsSome, IfSome, MatchOption}
use Rattle.std.specs.List.{AllByRecursion}
use Rattle.line_grammar.specs.declared.command.Change.{Change}
use Rattle.line_grammar.specs.Spellable.{IsSpellableChange}
use Rattle.record_codec.specs.declared.entry.Entry.{Entry}
use Rattle.record_codec.specs.Fitting.{IsChange}
use Rattle.realm_insert.specs.State.{State, SpendableState}
use Rattle.realm_insert.specs.Refusals.{IsAccepted, IsRefusedBy}
use Rattle.realm_insert.specs.declared.refusal.Refusal.{Refusal}
use Rattle.realm_files.specs.declared.place.Place.{Place}
use Rattle.realm_store.specs.declared.committing.Made.{Made}
use Rattle.realm_store.specs.declared.grouping.OpenGroup.{OpenGroup}
use Rattle.realm_store.specs.Leading.{LeadsBy, LeadOnBy}
use Rattle.realm_store.specs.Keeping.{Kept, kept_at, with_state, Group, SpendableKept, HasGroup, state_with, present}
use Rattle.realm_store.specs.Making.{Commits, HasRoom, LacksRoom, IsRefusedFor}
use Rattle.realm_store.specs.NextGates.{IsGateFor}
use Rattle.realm_store.specs.ReadyChanges.{IsMadeOf}
use Rattle.realm_store.specs.Groups.{filed_state, group_seen, kept_begun, with_entry, IsOpen}
use Rattle.realm_store.proofs.Replays.{lead_on_by}

-- ---- what is seen of it

-- what is seen of a store whose engine has this state
abbrev pub seen : State → Option OpenGroup → Option Place → Bool → Bool → SpendableKept
seen state group place has_gate spent =
    record { kept = kept_at (filed_state state group) place has_gate; group = group_seen state group; spent = spent }

-- none is held where none is seen,
pub none_held : (state : State) (group : Option OpenGroup) → group_seen state group ≡ None → group ≡ None
none_held state None is = refl
none_held state (Some held) is = cc

-- none of another state either,
pub none_seen : (state other : State) (group : Option OpenGroup) → group_seen state group ≡ None → group_seen other group ≡ None
none_seen state other group is = ap (λ g. group_seen other g) (none_held state group is)

-- and what the files keep is the engine's state
pub filed_alone : (state other : State) (group : Option OpenGroup) → group_seen state group ≡ None → filed_state other group ≡ other
filed_alone state other group is = ap (λ g. filed_state other g) (none_held state group is)

-- the state at present is that of the engine
present_is : (state : State) (group : Option OpenGroup) → state_with (filed_state state group) (group_seen state group) ≡ state
present_is state None = refl
present_is state (Some held) = refl

pub at_present : (state : State) (group : Option OpenGroup) {place : Option Place} {has_gate spent : Bool} {self : SpendableKept}
    → seen state group place has_gate spent ≡ self → state ≡ present self
at_present state group is = sym (present_is state group) ∙ ap present is

-- and where no group is open it is what is kept
pub at_kept : (state : State) (group : Option OpenGroup) {place : Option Place} {has_gate spent : Bool} {self : SpendableKept}
    → seen state group place has_gate spent ≡ self → self.group ≡ None → state ≡ self.kept.state
at_kept state group is alone =
    sym (filed_alone state state group (ap (λ (s : SpendableKept). s.group) is ∙ alone)) ∙ ap (λ (s : SpendableKept). s.kept.state) is

pub kept_alone : (state : State) (group : Option OpenGroup) {place : Option Place} {has_gate spent : Bool} {self : SpendableKept}
    → seen state group place has_gate spent ≡ self → self.group ≡ None → kept_at state place has_gate ≡ self.kept
kept_alone state group {place} {has_gate} is alone =
    ap (λ s. kept_at s place has_gate) (sym (filed_alone state state group (ap (λ (s : SpendableKept). s.group) is ∙ alone)))
    ∙ ap (λ (s : SpendableKept). s.kept) is

-- another engine's state is at the same place
pub same_place : (state other : State) (group : Option OpenGroup) {place : Option Place} {has_gate spent : Bool} {self : SpendableKept}
    → seen state group place has_gate spent ≡ self
    → kept_at (filed_state other group) place has_gate ≡ with_state (filed_state other group) self.kept
same_place state other group is = ap (λ (s : SpendableKept). with_state (filed_state other group) s.kept) is

pub alone_at_present : (self : SpendableKept) → self.group ≡ None → self.kept.state ≡ present self
alone_at_present self alone = sym (ap (state_with self.kept.state) alone)

-- ---- a change is refused

-- for a cause in the state, or since there is no room
pub refused_for : {c : Change} {state now : State} (kept : Kept) {word lack : Refusal} → state ≡ now → LacksRoom kept lack
    → IsRefusedBy c state word ⊎ (IsAccepted c state × (word ≡ lack)) → IsRefusedFor c now kept word
refused_for {c} kept {word} at lacks found = subst (λ s. IsRefusedFor c s kept word) at
    (⊎_elim (λ refused. inl refused) (λ lacking. inr (lacking.0, subst (λ w. LacksRoom kept w) (sym lacking.1) lacks)) found)

-- an engine that is as it was leaves the store so
pub same_store : {engine after : SpendableState} (group : Option OpenGroup) {place : Option Place} {has_gate spent : Bool}
    {self : SpendableKept} → after ≡ engine → seen engine.state group place has_gate spent ≡ self → self.spent ≡ false
    → seen after.state group place has_gate false ≡ self
same_store {engine} {after} group {place} {has_gate} stays is ready =
    let unspent = ap (λ (s : SpendableKept). s.spent) is ∙ ready in
    ap (λ (e : SpendableState). seen e.state group place has_gate false) stays
    ∙ ap (λ b. seen engine.state group place has_gate b) (sym unspent) ∙ is

-- no group is open where the test failed
pub no_group : (group : Option Group) (test : Bool) → (IsTrue test ↔ IsSome group) → test ≡ false → group ≡ None
no_group None test told failed = refl
no_group (Some group) test told failed = let yes : test ≡ true = told.1 refl in absurd cc

-- what the gate of the group lacks is lacking of what is kept
pub room_in : (state : State) (group : Option OpenGroup) (found : Option Refusal) {place : Option Place} {has_gate spent : Bool}
    {self : SpendableKept} → seen state group place has_gate spent ≡ self → HasGroup self → IfSome group (IsOpen state place has_gate)
    → IfSome group (λ held. (kept : Kept) → IsGateFor held.gate kept → MatchOption found (HasRoom kept) (LacksRoom kept))
    → MatchOption found (HasRoom self.kept) (LacksRoom self.kept)
room_in state None found is has opened told = let some = subst HasGroup (sym is) has in absurd cc
room_in state (Some held) found {place} {has_gate} is has opened told =
    subst (λ (s : SpendableKept). MatchOption found (HasRoom s.kept) (LacksRoom s.kept)) is
    (told (kept_begun held place has_gate) opened.gate)

-- ---- its entries

-- entries that lead on are changes
pub are_changes : (start end : State) (entries : List Entry) → LeadOnBy start entries end
    → AllByRecursion (λ e. IsChange e.line) entries
are_changes start end [] is = tt
are_changes start end (e ∷ more) (mid, first, later) = ((first.change, first.spellable, first.line), are_changes mid end more later)

-- ---- a change joins it

-- the entry of a change that was made leads on
leads_by : {c : Change} {old new : State} {made : Made} → IsSpellableChange c → IsMadeOf c old new made → LeadsBy old made.entry new
leads_by {c} {old} {new} spellable one = subst (λ (e : Entry). LeadsBy old e new) (sym one.entry_is)
    (record { change = c; spellable = spellable; line = refl; next = one.next })

module _ {c : Change} {old new : State} {made : Made} (one : IsMadeOf c old new made) (place : Option Place) (has_gate spent : Bool) where
  -- so the group stays one that a store may hold,
  still_open : {held : OpenGroup} → IsSpellableChange c → IsOpen old place has_gate held → HasRoom (kept_begun held place has_gate)
      → IsOpen new place has_gate (with_entry held made.entry)
  still_open {held} spellable was room = record {
    ready = was.ready;
    leads = lead_on_by held.begun.state old new held.entries made.entry was.leads (leads_by spellable one);
    gate = was.gate;
    room = λ _. room;
  }

  holds_at : (group after : Option OpenGroup) → IsSome (group_seen old group)
      → HasRoom (kept_at (filed_state old group) place has_gate)
      → IfSome group (λ held. after ≡ Some (with_entry held made.entry)) → IsSpellableChange c → IfSome group (IsOpen old place has_gate)
      → IfSome after (IsOpen new place has_gate)
  holds_at None after none room joined spellable was = absurd cc
  holds_at (Some held) after some room joined spellable was =
      subst (λ g. IfSome g (IsOpen new place has_gate)) (sym joined) (still_open spellable was room)

  -- and what is kept of the files stays
  commits_at : (group after : Option OpenGroup) → IsSome (group_seen old group)
      → HasRoom (kept_at (filed_state old group) place has_gate)
      → IfSome group (λ held. after ≡ Some (with_entry held made.entry))
      → Commits c (seen old group place has_gate spent) made.reply (seen new after place has_gate false)
  commits_at None after none room joined = absurd cc
  commits_at (Some held) after some room joined =
      subst (λ g. Commits c (seen old (Some held) place has_gate spent) made.reply (seen new g place has_gate false)) (sym joined) (
        refl,
        (
          record { state = new; entries = held.entries ++ made.entry ∷ [] },
          refl,
          record {
            steps = one.steps;
            next = one.next;
            entries = ap (λ e. held.entries ++ e ∷ []) one.entry_is;
            room = room;
            sound = one.sound;
            reply_is = one.reply_is;
          },
        ),
      )

  module _ {self : SpendableKept} (group after : Option OpenGroup) (is : seen old group place has_gate spent ≡ self)
      (has : HasGroup self) (room : HasRoom self.kept)
      (joined : IfSome group (λ held. after ≡ Some (with_entry held made.entry))) where
    some : IsSome (group_seen old group)
    some = subst HasGroup (sym is) has

    room_at : HasRoom (kept_at (filed_state old group) place has_gate)
    room_at = subst (λ (s : SpendableKept). HasRoom s.kept) (sym is) room

    pub holds_joined : IsSpellableChange c → IfSome group (IsOpen old place has_gate) → IfSome after (IsOpen new place has_gate)
    holds_joined spellable was = holds_at group after some room_at joined spellable was

    pub commits_joined : Commits c self made.reply (seen new after place has_gate false)
    commits_joined =
        subst (λ s. Commits c s made.reply (seen new after place has_gate false)) is (commits_at group after some room_at joined)
