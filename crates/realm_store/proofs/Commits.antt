-- This file shows what a commit makes of what is kept, and what it leaves of the files.
use Rattle.std.proofs.Common.{◌≡◌, inl, ◌+◌, ℕ, Bool, true, false, Option, Some, None, List, length, refl, sym, ◌∙◌, ap, subst}
use Rattle.std.proofs.lemmas.Result.{IfOk-from_err}
use Rattle.std.specs.Prelude.{Result, Ok, Err, OnOk, IsErr, MatchOption}
use Rattle.outside_world.specs.declared.world.FileName.{FileName}
use Rattle.outside_world.specs.View.{View}
use Rattle.line_grammar.specs.declared.command.Change.{Change}
use Rattle.line_grammar.specs.Spellable.{IsSpellableChange}
use Rattle.record_codec.specs.declared.record.Record.{Record}
use Rattle.record_codec.specs.Fitting.{IsRecord}
use Rattle.record_codec.specs.Spelling.{record_text}
use Rattle.realm_insert.specs.State.{State}
use Rattle.realm_journal.specs.Appending.{Appended}
use Rattle.realm_journal.specs.declared.error.JournalError.{JournalError}
use Rattle.realm_files.specs.Writing.{place_for, with_gate, Committed}
use Rattle.realm_files.specs.declared.place.Place.{Place}
use Rattle.realm_files.proofs.Appends.{committed}
use Rattle.realm_files.proofs.ReadyGates.{committed_by}
use Rattle.realm_files.proofs.Rests.{rest_in_each}
use Rattle.realm_files.proofs.Runs.{leaves_none, leaves_wider}
use Rattle.realm_store.specs.declared.committing.Ready.{Ready}
use Rattle.realm_store.specs.declared.gates.NextGate.{NextGate}
use Rattle.realm_store.specs.declared.grouping.OpenGroup.{OpenGroup}
use Rattle.realm_store.specs.Leading.{Leads}
use Rattle.realm_store.specs.Stands.{meaning}
use Rattle.realm_store.specs.Keeping.{Kept, Group, SpendableKept, AllRest, with_state, without_group}
use Rattle.realm_store.specs.Making.{IsMade, HasRoom, place_behind, kept_behind, Joins, Commits}
use Rattle.realm_store.specs.NextGates.{IsGateFor}
use Rattle.realm_store.specs.ReadyChanges.{IsReady}
use Rattle.realm_store.specs.Committing.{Readied, IsWritten, Keeps}
use Rattle.realm_store.proofs.Groups.{seen}

-- ---- a record waits to be written

-- What is kept has another state now, at the same place.
module _ (old new : Kept) (same : new ≡ with_state new.state old) where
  before : with_state old.state new ≡ old
  before = ap (λ k. with_state old.state k) same

  -- there is room still, and the files rest
  pub room_stays : HasRoom old → HasRoom (with_state old.state new)
  room_stays room = subst HasRoom (sym before) room

  pub rest_stays : {v : View} → AllRest old v → AllRest (with_state old.state new) v
  rest_stays {v} rest = subst (λ k. AllRest k v) (sym before) rest

  -- The gate waits still.
  module _ (gate : NextGate) (waits : IsGateFor gate old) where
    pub gate_waits : IsGateFor gate (with_state old.state new)
    gate_waits = subst (λ k. IsGateFor gate k) (sym before) waits

    -- A record that leads to the new state is written from there,
    pub keeps_from : (r : Record) {v w : View} {result : Result Unit JournalError} → AllRest old v → Leads old.state r new.state
        → ((state : State) → IsGateFor gate (with_state state new) → AllRest (with_state state new) v → Leads state r new.state
        → Keeps v w (with_state state new) (kept_behind (with_state state new) r new.state) result)
        → Keeps v w old (kept_behind old r new.state) result
    keeps_from r {v} {w} {result} rest leads told = subst (λ k. Keeps v w k (kept_behind k r new.state) result) before
        (told old.state gate_waits (rest_stays rest) leads)

    -- and what is kept then is behind it
    pub stored_behind : (r : Record) {self : SpendableKept} → ((state : State) → IsGateFor gate (with_state state new)
        → self ≡ without_group (kept_behind (with_state state new) r new.state))
        → self ≡ without_group (kept_behind old r new.state)
    stored_behind r told = told old.state gate_waits ∙ ap (λ k. without_group (kept_behind k r new.state)) before

-- ---- a change is made

-- A change was made of what is kept, at the same place, and waits to be written.
module _ {c : Change} {old new : Kept} {ready : Ready} (made : IsReady c old new.state ready) (same : new ≡ with_state new.state old) where
  -- its record will stand behind the gate that waited
  abbrev pub after : Kept
  after = kept_behind old ready.record new.state

  -- so it is made of what is kept
  pub is_made : IsMade c old ready.reply after
  is_made = record {
    steps = made.steps;
    makes = record {
      next = made.next;
      place = ap (λ (r : Record). Some (place_behind old r)) made.record_is;
      has_gate = refl;
      room = made.room;
    };
    sound = made.sound;
    reply_is = made.reply_is;
  }

  -- its record leads on from the state before
  leads : IsSpellableChange c → Leads old.state ready.record new.state
  leads spellable = subst (λ (r : Record). Leads old.state r new.state) (sym made.record_is) (record {
    number = made.next.changes;
    entries = (new.state, record { change = c; spellable = spellable; line = refl; next = made.next }, refl);
  })

  -- the gate waits for it still, and there is room
  pub waits_before : IsGateFor ready.gate (with_state old.state new)
  waits_before = gate_waits old new same ready.gate made.gate

  pub room_before : HasRoom (with_state old.state new)
  room_before = room_stays old new same made.room

  -- the files rest at it still
  pub rests_before : {v : View} → AllRest old v → AllRest (with_state old.state new) v
  rests_before rest = rest_stays old new same rest

  -- and what is written is written from it,
  pub kept_from : {v w : View} {r : Result Unit JournalError} → IsSpellableChange c → AllRest old v
      → ((state : State) → IsGateFor ready.gate (with_state state new) → AllRest (with_state state new) v
      → Leads state ready.record new.state
      → Keeps v w (with_state state new) (kept_behind (with_state state new) ready.record new.state) r) → Keeps v w old after r
  kept_from spellable rest told = keeps_from old new same ready.gate made.gate ready.record rest (leads spellable) told

  -- and kept behind it
  pub stored : {self : SpendableKept} → ((state : State) → IsGateFor ready.gate (with_state state new)
      → self ≡ without_group (kept_behind (with_state state new) ready.record new.state)) → self ≡ without_group after
  stored told = stored_behind old new same ready.gate made.gate ready.record told

-- a change outside a group
pub commits_alone : {c : Change} (old after : SpendableKept) {reply : List ℕ} → old.group ≡ None → IsMade c old.kept reply after.kept
    → after.group ≡ None → Commits c old reply after
commits_alone {c} old after {reply} alone made none =
    subst (λ g. MatchOption g (IsMade c old.kept reply after.kept × (after.group ≡ None))
    (λ group. (after.kept ≡ old.kept) × ((more : Group) × (after.group ≡ Some more) × Joins c old.kept group reply more))) (sym alone)
    (made, none)

pub made_alone : {c : Change} (old new : SpendableKept) {reply : List ℕ} → old.group ≡ None → Commits c old reply new
    → IsMade c old.kept reply new.kept × (new.group ≡ None)
made_alone {c} old new {reply} alone commits =
    subst (λ g. MatchOption g (IsMade c old.kept reply new.kept × (new.group ≡ None))
    (λ group. (new.kept ≡ old.kept) × ((more : Group) × (new.group ≡ Some more) × Joins c old.kept group reply more))) alone commits

-- ---- nothing is written

pub unwritten : {v : View} {kept later : Kept} → AllRest kept v → IsWritten v v kept later
unwritten rest = leaves_none (λ files images _. inl (inl (rest_in_each meaning rest files images)))

pub written_in_group : {T X E : Type 0} {v : View} {kept : Kept} (later : Kept) (r : Result X E) → (T → AllRest kept v)
    → OnOk r (T → IsWritten v v kept later)
written_in_group later (Ok x) rest = λ t. unwritten (rest t)
written_in_group later (Err e) rest = tt

-- ---- its record is written

-- behind the place of the gate that was made ready
pub kept_then : (state : State) (group : Option OpenGroup) (start : Kept) (r : Record) {old : Option Place} {has_gate spent : Bool}
    {self : SpendableKept} {place : Place} {next : ℕ} → seen state group old has_gate spent ≡ self → self.group ≡ None
    → place ≡ place_for meaning start → next ≡ place.next + 1 + length (record_text r)
    → seen state group (Some (with_gate place next)) true false ≡ without_group (kept_behind start r self.kept.state)
kept_then state group start r is alone there behind =
    let at = ap (λ (s : SpendableKept). s.kept.state) is in
    let none = ap (λ (s : SpendableKept). s.group) is ∙ alone in
    let next_is = behind ∙ ap (λ (p : Place). p.next + 1 + length (record_text r)) there in
    λ i. record {
      kept = record { state = at i; place = Some (with_gate (there i) (next_is i)); has_gate = true };
      group = none i;
      spent = false;
    }

-- the gate isn't ready yet, or the record isn't whole,
pub kept_early : {old new : View} {start later : Kept} {place : Place} {s : Result Unit JournalError} (r : Result Unit JournalError)
    → IsErr r → Readied old new start place s → Keeps old new start later r
kept_early {new = new} {later = later} r failed ready = record {
  written = leaves_wider ready.leaves (λ files from has. inl (from has));
  rest = IfOk-from_err r (λ _. AllRest later new) failed;
}

-- or it stands behind its gate
module _ {old mid new : View} {start : Kept} {state : State} {place : Place} {r : Record} (there : place ≡ place_for meaning start)
    (is_record : IsRecord r) (leads : Leads start.state r state) {x : Unit {0}} (ready : Readied old mid start (place_for meaning start) (Ok x))
    (reads : (f : FileName) → new.image f (new.reads f)) where
  behind : (a : Result ℕ JournalError) → Appended mid new place.file place.next (record_text r) a
      → Committed meaning old new start (kept_behind start r state) a
  behind a appended =
      let here = subst (λ (p : Place). Appended mid new p.file p.next (record_text r) a) there appended in
      committed_by meaning refl ready (committed meaning state r is_record leads ready.rest a reads here)

  pub kept_cut : (a : Result ℕ JournalError) (s : Result Unit JournalError) → IsErr s
      → Appended mid new place.file place.next (record_text r) a → Keeps old new start (kept_behind start r state) s
  kept_cut a s failed appended = record {
    written = (behind a appended).written;
    rest = IfOk-from_err s (λ _. AllRest (kept_behind start r state) new) failed;
  }

  pub kept_whole : {n : ℕ} {y : Unit {0}} → Appended mid new place.file place.next (record_text r) (Ok n)
      → Keeps old new start (kept_behind start r state) (Ok y)
  kept_whole {n} appended =
      let done = behind (Ok n) appended in
      record { written = done.written; rest = done.rest }
