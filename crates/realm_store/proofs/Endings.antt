-- This file shows what the end of a group makes of what is kept.
use Rattle.std.proofs.Common.{◌≡◌, ◌+◌, ◌<◌, ℕ, zero, suc, Bool, List, [], ◌∷◌, Option, Some, length, refl, sym, ◌∙◌, ap, subst, arith}
use Rattle.std.specs.Prelude.{IfSome}
use Rattle.record_codec.specs.declared.entry.Entry.{Entry}
use Rattle.record_codec.specs.declared.record.Record.{Record}
use Rattle.realm_insert.specs.State.{State}
use Rattle.realm_files.specs.declared.place.Place.{Place}
use Rattle.realm_store.specs.declared.grouping.OpenGroup.{OpenGroup}
use Rattle.realm_store.specs.Leading.{Leads}
use Rattle.realm_store.specs.Sound.{IsSound}
use Rattle.realm_store.specs.Keeping.{Kept, Group, SpendableKept, without_group, changes_in}
use Rattle.realm_store.specs.Making.{HasRoom, kept_behind, group_record, kept_with, Ends}
use Rattle.realm_store.specs.NextGates.{IsGateFor}
use Rattle.realm_store.specs.Groups.{kept_begun, IsOpen}
use Rattle.realm_store.proofs.Groups.{seen}

-- with an entry, what is kept then is kept behind their record
kept_with_some : (entries : List Entry) (kept : Kept) (group : Group) → 0 < length entries
    → kept_with entries kept group ≡ kept_behind kept (group_record kept group) group.state
kept_with_some [] kept group some = absurd (omega (arith, some))
kept_with_some (e ∷ more) kept group some = refl

pub positive : (n : ℕ) → (n ≡ 0 → ⊥) → 0 < n
positive zero never = absurd (never refl)
positive (suc n) never = omega arith

-- the record of a group
abbrev pub record_held : OpenGroup → Record
record_held held = record { number = held.begun.state.changes + 1; entries = held.entries }

-- A store holds an open group, and the state at present is sound.
module _ (state : State) (group : Option OpenGroup) (held : OpenGroup) (there : group ≡ Some held) {place : Option Place}
    {has_gate spent : Bool} {self : SpendableKept} (is : seen state group place has_gate spent ≡ self) where
  of_held : seen state (Some held) place has_gate spent ≡ self
  of_held = ap (λ g. seen state g place has_gate spent) (sym there) ∙ is

  -- the files keep the state at its begin
  pub begun_is : kept_begun held place has_gate ≡ self.kept
  begun_is = ap (λ (s : SpendableKept). s.kept) of_held

  pub some_entry : {count : ℕ} → count ≡ changes_in self → 0 < count → 0 < length held.entries
  some_entry counted some = subst (λ n. 0 < n) (counted ∙ sym (ap changes_in of_held)) some

  module _ (opened : IfSome group (IsOpen state place has_gate)) where
    is_open : IsOpen state place has_gate held
    is_open = subst (λ g. IfSome g (IsOpen state place has_gate)) there opened

    -- the gate waits for its record, and with an entry there is room
    pub gate_held : IsGateFor held.gate (kept_begun held place has_gate)
    gate_held = is_open.gate

    pub room_held : 0 < length held.entries → HasRoom (kept_begun held place has_gate)
    room_held some = is_open.room some

    -- its record leads from there to the state at present
    pub group_leads : {r : Record} {after : State} → r ≡ record_held held → after ≡ state → Leads held.begun.state r after
    group_leads {r} same at =
        let here : Leads held.begun.state (record_held held) state = record { number = refl; entries = is_open.leads } in
        subst (λ s. Leads held.begun.state r s) (sym at) (subst (λ q. Leads held.begun.state q state) (sym same) here)

    -- and the group ends so
    pub ends : {r : Record} {after : State} {count : ℕ} → r ≡ record_held held → after ≡ state → count ≡ changes_in self
        → 0 < length held.entries → IsSound state
        → Ends self count (without_group (kept_behind (kept_begun held place has_gate) r after))
    ends {r} {after} {count} same at counted some sound =
        let seen_group : Group = record { state = state; entries = held.entries } in
        let behind = kept_behind (kept_begun held place has_gate) (record_held held) state in
        let here : Ends (seen state (Some held) place has_gate spent) (length held.entries) (without_group behind) = record {
          group = seen_group;
          was_open = refl;
          count_is = refl;
          leads = is_open.leads;
          new_is = ap without_group (sym (kept_with_some held.entries (kept_begun held place has_gate) seen_group some));
          sound = sound;
        } in
        let counts : length held.entries ≡ count = ap changes_in of_held ∙ sym counted in
        let there_still = subst (λ n. Ends self n (without_group behind)) counts
        (subst (λ s. Ends s (length held.entries) (without_group behind)) of_held here) in
        subst (λ s. Ends self count (without_group (kept_behind (kept_begun held place has_gate) r s))) (sym at)
        (subst (λ q. Ends self count (without_group (kept_behind (kept_begun held place has_gate) q state))) (sym same) there_still)
