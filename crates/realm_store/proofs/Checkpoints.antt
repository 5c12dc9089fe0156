-- This file shows what is kept once the state is written as the next generation, whichever state the files stood for before.
use Rattle.std.proofs.Common.{◌≡◌, ℕ, Bool, true, false, Option, Some, None, refl, sym, ◌∙◌, ap, subst}
use Rattle.std.proofs.lemmas.Result.{IfOk-from_err}
use Rattle.std.specs.Prelude.{Result, Ok, IsErr}
use Rattle.outside_world.specs.declared.world.FileName.{FileName}
use Rattle.outside_world.specs.View.{View}
use Rattle.record_codec.specs.declared.snapshot.Snapshot.{Snapshot}
use Rattle.realm_journal.specs.declared.error.JournalError.{JournalError}
use Rattle.realm_insert.specs.State.{State}
use Rattle.realm_insert.specs.Snapshots.{state_of, payload_of}
use Rattle.realm_pages.specs.Generations.{Generation, gate_of}
use Rattle.realm_files.specs.Stands.{numbered}
use Rattle.realm_files.specs.declared.place.Place.{Place}
use Rattle.realm_files.specs.Writing.{next_file, next_generation, version_now, renewed_place}
use Rattle.realm_store.specs.declared.grouping.OpenGroup.{OpenGroup}
use Rattle.realm_store.specs.Sound.{IsSound}
use Rattle.realm_store.specs.Stands.{Opens}
use Rattle.realm_store.specs.Keeping.{Kept, kept_at, with_state, SpendableKept, without_group, AllRest}
use Rattle.realm_store.specs.Groups.{filed_state}
use Rattle.realm_store.specs.Committing.{Renewed}
use Rattle.realm_store.specs.Renewing.{IsRenewed, IsNext, kept_renewed}
use Rattle.realm_store.specs.Adopting.{MayReplace, Adopts}
use Rattle.realm_store.proofs.Groups.{seen, filed_alone}
use Rattle.realm_store.proofs.Payloads.{of_snapshot}

-- ---- a generation is put on the other file

-- the place of a first gate there, in the next generation
abbrev pub place_next : Option Place → ℕ → Place
place_next place next =
    record { file = next_file place; version = version_now; generation = next_generation place; next = next }

-- a store that has no group keeps it then
pub put_then : (state : State) (group : Option OpenGroup) (pages : Generation) {place : Option Place} {has_gate spent : Bool}
    {self : SpendableKept} {there : Place} {next : ℕ} → seen state group place has_gate spent ≡ self → self.group ≡ None
    → there ≡ place_next place next → next ≡ gate_of pages
    → seen state group (Some there) true false ≡ without_group (kept_renewed self.kept pages.payload)
put_then state group pages is alone there gate =
    let at = ap (λ (s : SpendableKept). s.kept.state) is in
    let here = ap (λ (s : SpendableKept). s.kept.place) is in
    let none = ap (λ (s : SpendableKept). s.group) is ∙ alone in
    let behind = there ∙ (λ i. place_next (here i) (gate i)) in
    λ i. record {
      kept = record { state = at i; place = Some (behind i); has_gate = true };
      group = none i;
      spent = false;
    }

-- it is the next one in whatever file that is
pub next_in : {kept : Kept} {place : Option Place} {file : FileName} {pages : Generation} → file ≡ next_file place → place ≡ kept.place
    → IsNext kept (next_file kept.place) pages → IsNext kept file pages
next_in {kept} {pages = pages} there here next = subst (λ f. IsNext kept f pages) (sym (there ∙ ap next_file here)) next

-- it is whole, or the disk failed before that
pub put_whole : {old new : View} {start after : Kept} {n : ℕ} {x : Unit {0}} → Renewed old new start after (Ok n)
    → Renewed old new start after (Ok x)
put_whole renewed = record { replaced = renewed.replaced; rest = renewed.rest }

pub put_cut : {old new : View} {start after : Kept} {r : Result ℕ JournalError} (s : Result Unit JournalError) → IsErr s
    → Renewed old new start after r → Renewed old new start after s
put_cut {new = new} {after = after} s failed renewed = record {
  replaced = renewed.replaced;
  rest = IfOk-from_err s (λ _. AllRest after new) failed;
}

-- ---- the state of the engine is put there

-- A store had no group and an engine with one state. Its engine has another now, or the same.
module _ (was now : State) (group : Option OpenGroup) {place : Option Place} {has_gate spent : Bool} {self : SpendableKept}
    (is : seen was group place has_gate spent ≡ self) (alone : self.group ≡ None) where
  -- what is to be kept
  abbrev pub wanted : Kept
  wanted = kept_at (filed_state now group) place has_gate

  -- it has the state of the engine,
  at_engine : filed_state now group ≡ now
  at_engine = filed_alone was now group (ap (λ (s : SpendableKept). s.group) is ∙ alone)

  was_kept : kept_at (filed_state was group) place has_gate ≡ self.kept
  was_kept = ap (λ (s : SpendableKept). s.kept) is

  -- which was made ready as the next generation
  pub is_next : {generation : ℕ} {pages : Generation} → generation ≡ next_generation place
      → pages ≡ numbered version_now generation (payload_of now) → Opens (payload_of now) now → IsNext wanted (next_file place) pages
  is_next number are opens = record {
    file_is = refl;
    version = ap (λ (g : Generation). g.version) are;
    number = ap (λ (g : Generation). g.number) are ∙ number;
    opens = subst (λ (g : Generation). Opens g.payload (filed_state now group)) (sym are)
        (subst (λ s. Opens (payload_of now) s) (sym at_engine) opens);
  }

  -- and put on the file from what was kept
  pub put_from : {old new : View} {after : Kept} {r : Result Unit JournalError} → AllRest self.kept old
      → ((before : State) → AllRest (with_state before wanted) old → Renewed old new (with_state before wanted) after r)
      → Renewed old new self.kept after r
  put_from {old} {new} {after} {r} rest told =
      subst (λ k. Renewed old new k after r) was_kept
      (told (filed_state was group) (subst (λ k. AllRest k old) (sym was_kept) rest))

  -- a state from elsewhere takes the place of what was kept
  pub adopts : (s : Snapshot) {generation : ℕ} {pages : Generation} → MayReplace self.kept s → now ≡ state_of s → IsSound now
      → pages ≡ numbered version_now generation (payload_of now) → Adopts self.kept s (kept_renewed wanted pages.payload)
  adopts s may at sound are =
      let bytes = ap (λ (g : Generation). g.payload) are ∙ ap payload_of at ∙ sym (of_snapshot s) in
      let here = ap (λ (k : Kept). k.place) was_kept in
      record {
        may = may;
        state = at_engine ∙ at;
        place = λ i. Some (renewed_place (here i) (bytes i));
        has_gate = refl;
        sound = subst IsSound (sym at_engine) sound;
      }

-- the same state is renewed
pub renewed : (state : State) (group : Option OpenGroup) {place : Option Place} {has_gate spent : Bool} {self : SpendableKept}
    {file : FileName} {pages : Generation} (is : seen state group place has_gate spent ≡ self)
    → IsNext (kept_at (filed_state state group) place has_gate) file pages
    → IsRenewed self.kept (kept_renewed (kept_at (filed_state state group) place has_gate) pages.payload)
renewed state group {place} {has_gate} {pages = pages} is next =
    let kept = kept_at (filed_state state group) place has_gate in
    subst (λ k. IsRenewed k (kept_renewed kept pages.payload)) (ap (λ (s : SpendableKept). s.kept) is) (record {
      state = refl;
      payload = pages.payload;
      opens = next.opens;
      place = refl;
      has_gate = refl;
    })
