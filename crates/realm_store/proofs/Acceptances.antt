-- This file shows what the acceptance of a record makes of what is kept, and what it leaves of the files.
use Rattle.std.proofs.Common.{◌≡◌, Bool, false, Option, None, refl, sym, ◌∙◌, ap, subst}
use Rattle.std.specs.Prelude.{Result}
use Rattle.outside_world.specs.View.{View}
use Rattle.record_codec.specs.declared.record.Record.{Record}
use Rattle.realm_insert.specs.State.{State}
use Rattle.realm_journal.specs.declared.error.JournalError.{JournalError}
use Rattle.realm_files.specs.declared.place.Place.{Place}
use Rattle.realm_store.specs.declared.accepting.ReadyRecord.{ReadyRecord}
use Rattle.realm_store.specs.declared.grouping.OpenGroup.{OpenGroup}
use Rattle.realm_store.specs.Leading.{Leads}
use Rattle.realm_store.specs.Sound.{IsSound}
use Rattle.realm_store.specs.Keeping.{Kept, SpendableKept, AllRest, with_state}
use Rattle.realm_store.specs.Making.{HasRoom, kept_behind}
use Rattle.realm_store.specs.NextGates.{IsGateFor}
use Rattle.realm_store.specs.Committing.{Keeps}
use Rattle.realm_store.specs.Accepting.{Accepts}
use Rattle.realm_store.specs.ReadyRecords.{IsReadyRecord, IsRemade}
use Rattle.realm_store.proofs.Groups.{seen, filed_alone, none_seen, same_place}
use Rattle.realm_store.proofs.Commits.{gate_waits, room_stays, rest_stays, keeps_from}

-- A record led the engine from the state that is kept to this one, which is sound: it is kept at the same place.
pub is_remade : {r : Record} (state other : State) (group : Option OpenGroup) {place : Option Place} {has_gate spent : Bool}
    {self : SpendableKept} → seen state group place has_gate spent ≡ self → self.group ≡ None → Leads self.kept.state r other
    → IsSound other → IsRemade self.kept r (seen other group place has_gate false)
is_remade {r} state other group {self = self} is alone leads sound =
    let none = ap (λ (s : SpendableKept). s.group) is ∙ alone in
    let at = sym (filed_alone state other group none) in
    record {
      leads = subst (λ s. Leads self.kept.state r s) at leads;
      same_place = same_place state other group is;
      alone = none_seen state other group none;
      sound = subst IsSound at sound;
    }

-- The record waits, and its changes are made.
module _ {old : Kept} {r : Record} {ready : ReadyRecord} {mid : SpendableKept} (waits : IsReadyRecord old r ready)
    (made : IsRemade old r mid) where
  -- what is kept then is accepted
  pub accepts : Accepts old r (kept_behind old r mid.kept.state)
  accepts = record { leads = made.leads; room = waits.room; place = refl; has_gate = refl; sound = made.sound }

  -- the gate waits for it still, there is room, and the files rest
  pub gate_before : {T : Type 0} {v : View} → (T → AllRest old v) → (state : State) × IsGateFor ready.gate (with_state state mid.kept)
      × HasRoom (with_state state mid.kept) × (T → AllRest (with_state state mid.kept) v)
  gate_before rest = (
    old.state,
    gate_waits old mid.kept made.same_place ready.gate waits.gate,
    room_stays old mid.kept made.same_place waits.room,
    λ t. rest_stays old mid.kept made.same_place (rest t),
  )

  -- and it is written from there
  pub accepted_from : {v w : View} {result : Result Unit JournalError} → AllRest old v
      → ((state : State) → IsGateFor ready.gate (with_state state mid.kept) → AllRest (with_state state mid.kept) v
      → Leads state ready.record mid.kept.state
      → Keeps v w (with_state state mid.kept) (kept_behind (with_state state mid.kept) ready.record mid.kept.state) result)
      → Keeps v w old (kept_behind old r mid.kept.state) result
  accepted_from {v} {w} {result} rest told =
      let leads = subst (λ (q : Record). Leads old.state q mid.kept.state) (sym waits.record_is) made.leads in
      subst (λ (q : Record). Keeps v w old (kept_behind old q mid.kept.state) result) waits.record_is
      (keeps_from old mid.kept made.same_place ready.gate waits.gate ready.record rest leads told)
