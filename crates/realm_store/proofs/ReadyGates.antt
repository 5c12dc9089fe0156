-- This file shows what is known of the next gate, and that it is there, closed, where a generation was put before it, its byte
-- was added, or nothing was to be done.
use Rattle.std.proofs.Common.{◌≡◌, ◌≤◌, ℕ, true, false, length, refl, sym, ◌∙◌, ap, subst}
use Rattle.std.specs.Prelude.{◌↔◌, Result, Ok, IsErr, IsTrue}
use Rattle.outside_world.specs.declared.world.FileName.{FileName}
use Rattle.outside_world.specs.View.{View}
use Rattle.realm_journal.specs.Shutting.{Shut}
use Rattle.realm_journal.specs.declared.error.JournalError.{JournalError}
use Rattle.realm_insert.specs.Snapshots.{payload_of}
use Rattle.realm_pages.specs.Generations.{Generation}
use Rattle.realm_files.specs.Stands.{Files, ReachesTo}
use Rattle.realm_files.specs.Writing.{place_for}
use Rattle.realm_files.specs.declared.place.Place.{Place}
use Rattle.realm_files.proofs.ReadyGates.{place_stays, place_is_renewed}
use Rattle.realm_files.proofs.ReadyGates.{readied_waiting, readied_missing, readied_renewed, readied_not_renewed}
use Rattle.realm_store.specs.declared.gates.NextGate.{NextGate}
use Rattle.realm_store.specs.declared.gates.NextGate.TheVariants.{Next, Missing, Waiting, Last}
use Rattle.realm_store.specs.Stands.{meaning, Opens}
use Rattle.realm_store.specs.Keeping.{Kept, RestsAt, AllRest}
use Rattle.realm_store.specs.Making.{next_gate, HasRoom, LacksGeneration}
use Rattle.realm_store.specs.NextGates.{IsOwn, IsThere, IsGateFor}
use Rattle.realm_store.specs.Committing.{Readied, Renewed}
use Rattle.realm_store.specs.Renewing.{IsNext, kept_renewed}

-- no generation comes before it: what is kept is its place
module _ (kept : Kept) {place : Place} (there : IsThere kept place) where
  at_place : place ≡ place_for meaning kept
  at_place = sym (place_stays meaning kept there.1 there.0)

  readied_at : {old new : View} {r : Result Unit JournalError} → Readied old new kept place r
      → Readied old new kept (place_for meaning kept) r
  readied_at {old} {new} {r} readied = subst (λ p. Readied old new kept p r) at_place readied

  there_lacks : IsTrue false ↔ LacksGeneration kept
  there_lacks = (λ yes. absurd cc, λ lacks. let no = sym there.0 ∙ lacks.0 in absurd cc)

module _ {gate : NextGate} (kept : Kept) (waits : IsGateFor gate kept) where
  -- ---- it comes behind a generation of its own

  own_is : {place : Place} {pages : Generation} → gate ≡ Next place pages → IsOwn kept place pages
  own_is is = subst (λ g. IsGateFor g kept) is waits

  pub own_place : {place : Place} {pages : Generation} → gate ≡ Next place pages → place ≡ place_for meaning kept
  own_place is = (own_is is).place_is

  pub own_lacks : {place : Place} {pages : Generation} → gate ≡ Next place pages → IsTrue false ↔ LacksGeneration kept
  own_lacks is = (λ yes. absurd cc, λ lacks. absurd ((own_is is).greater lacks.1))

  -- it is the next one, and keeps the state
  pub own_next : {place : Place} {pages : Generation} → gate ≡ Next place pages → IsNext kept place.file pages
  own_next is =
      let own = own_is is in
      record {
        file_is = ap (λ (p : Place). p.file) (own.place_is ∙ place_is_renewed meaning kept own.wanted);
        version = ap (λ (g : Generation). g.version) own.is;
        number = ap (λ (g : Generation). g.number) own.is;
        opens = subst (λ (g : Generation). Opens g.payload kept.state) (sym own.is) own.opens;
      }

  -- its payload is that of the state
  renewed_at : {place : Place} {pages : Generation} {old new : View} {r : Result ℕ JournalError} → gate ≡ Next place pages
      → Renewed old new kept (kept_renewed kept pages.payload) r → Renewed old new kept (kept_renewed kept (payload_of kept.state)) r
  renewed_at {old = old} {new} {r} is renewed =
      subst (λ (g : Generation). Renewed old new kept (kept_renewed kept g.payload) r) (own_is is).is renewed

  pub own_readied : {place : Place} {pages : Generation} {old new : View} {n : ℕ} {x : Unit {0}} → gate ≡ Next place pages
      → Renewed old new kept (kept_renewed kept pages.payload) (Ok n) → Readied old new kept (place_for meaning kept) (Ok x)
  own_readied is renewed = readied_renewed meaning (own_is is).wanted (renewed_at is renewed)

  pub own_cut : {place : Place} {pages : Generation} {old new : View} {r : Result ℕ JournalError} (s : Result Unit JournalError)
      → IsErr s → gate ≡ Next place pages → Renewed old new kept (kept_renewed kept pages.payload) r
      → Readied old new kept (place_for meaning kept) s
  own_cut s failed is renewed = readied_not_renewed meaning (own_is is).wanted s failed (renewed_at is renewed)

  -- ---- it is there, or its byte is missing at the end

  missing_is : {place : Place} → gate ≡ Missing place → IsThere kept place × (kept.has_gate ≡ false)
  missing_is is = subst (λ g. IsGateFor g kept) is waits

  pub missing_place : {place : Place} → gate ≡ Missing place → place ≡ place_for meaning kept
  missing_place is = at_place kept (missing_is is).0

  pub missing_lacks : {place : Place} → gate ≡ Missing place → IsTrue false ↔ LacksGeneration kept
  missing_lacks is = there_lacks kept (missing_is is).0

  pub missing_within : {place : Place} {files : Files} → gate ≡ Missing place → RestsAt kept files
      → place.next ≤ length (files place.file)
  missing_within {files = files} is rests =
      (subst (λ p. ReachesTo files p kept.has_gate) (missing_is is).0.1 rests.reach).0

  pub missing_readied : {place : Place} {old new : View} (r : Result Unit JournalError) → gate ≡ Missing place
      → ((f : FileName) → new.image f (new.reads f)) → AllRest kept old → Shut old new place.file place.next r
      → Readied old new kept (place_for meaning kept) r
  missing_readied r is reads rest shut =
      let (there, missing) = missing_is is in
      readied_at kept there (readied_missing meaning r reads there.1 missing rest shut)

  waiting_is : {place : Place} → gate ≡ Waiting place → IsThere kept place × (kept.has_gate ≡ true)
  waiting_is is = subst (λ g. IsGateFor g kept) is waits

  pub waiting_place : {place : Place} → gate ≡ Waiting place → place ≡ place_for meaning kept
  waiting_place is = at_place kept (waiting_is is).0

  pub waiting_lacks : {place : Place} → gate ≡ Waiting place → IsTrue false ↔ LacksGeneration kept
  waiting_lacks is = there_lacks kept (waiting_is is).0

  pub waiting_readied : {place : Place} {v : View} {x : Unit {0}} → gate ≡ Waiting place → AllRest kept v
      → Readied v v kept (place_for meaning kept) (Ok x)
  waiting_readied is rest =
      let (there, has) = waiting_is is in
      readied_at kept there (readied_waiting meaning there.1 has rest)

  -- ---- no greater generation is left

  last_is : {next : ℕ} → gate ≡ Last next → LacksGeneration kept × (next ≡ next_gate kept)
  last_is is = subst (λ g. IsGateFor g kept) is waits

  pub last_next : {next : ℕ} → gate ≡ Last next → next ≡ next_gate kept
  last_next is = (last_is is).1

  pub last_lacks : {next : ℕ} → gate ≡ Last next → IsTrue true ↔ LacksGeneration kept
  last_lacks is = (λ yes. (last_is is).0, λ lacks. refl)

  pub last_has_room : {next : ℕ} → gate ≡ Last next → HasRoom kept → ⊥
  last_has_room is room = room.generation (last_is is).0
