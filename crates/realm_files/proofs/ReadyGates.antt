-- This file shows how the gate before a record is made ready, and that the record is written behind it then.
use Rattle.std.proofs.Common.{◌≡◌, ◌⊎◌, inl, inr, ⊎_elim, ℕ, Bool, true, false, cond, eqb, List, take, Option, Some, None}
use Rattle.std.proofs.Common.{refl, sym, ◌∙◌, ap, subst}
use Rattle.std.proofs.lemmas.Result.{IfOk-from_err}
use Rattle.std.specs.Prelude.{Result, Ok, Err, IsErr, OnOk}
use Rattle.outside_world.specs.declared.world.FileName.{FileName}
use Rattle.outside_world.specs.View.{View, IsStable}
use Rattle.realm_journal.specs.declared.error.JournalError.{JournalError}
use Rattle.realm_journal.specs.Appending.{IsShut}
use Rattle.realm_journal.specs.Shutting.{Shut}
use Rattle.realm_files.specs.Meaning.{Meaning}
use Rattle.realm_files.specs.Stands.{Files, StandsAt}
use Rattle.realm_files.specs.Keeping.{Kept, at_gate, RestsAt, AllRest}
use Rattle.realm_files.specs.Writing.{renewed_place, wants_generation, gate_place, place_for}
use Rattle.realm_files.specs.Writing.{LeavesFiles, Renewed, RestsFrom, RestsBetween, Readied, Committed}
use Rattle.realm_files.specs.declared.place.Place.{Place}
use Rattle.realm_files.proofs.Runs.{leaves_none, leaves_by_writing, leaves_then, leaves_wider}
use Rattle.realm_files.proofs.Rests.{stable_by_writing, rest_in_each}
use Rattle.realm_files.proofs.Appends.{rests_front}

no_gate : {P : Type 0} → false ≡ true → P
no_gate is = absurd cc

-- ---- where it stands

-- the next gate is the one of this place, unless a generation comes before it,
gate_stays : (o : Option Place) (payload : List ℕ) (place : Place) → o ≡ Some place → wants_generation o ≡ false
    → gate_place o payload ≡ place
gate_stays None payload place there none = absurd cc
gate_stays (Some p) payload place there none =
    let same : p ≡ place = cc in
    ap (λ b. cond b (renewed_place (Some p) payload) p) none ∙ same

-- and else the first one behind that,
gate_is_renewed : (o : Option Place) (payload : List ℕ) → wants_generation o ≡ true → gate_place o payload ≡ renewed_place o payload
gate_is_renewed None payload wants = refl
gate_is_renewed (Some p) payload wants = ap (λ b. cond b (renewed_place (Some p) payload) p) wants

-- which is of the version that is written, so that no generation is wanted there
stays_by : (p : Place) (payload : List ℕ) (b : Bool) → eqb p.version 1 ≡ b
    → gate_place (Some (cond b (renewed_place (Some p) payload) p)) payload ≡ cond b (renewed_place (Some p) payload) p
stays_by p payload true is = refl
stays_by p payload false is = ap (λ b. cond b (renewed_place (Some p) payload) p) is

gate_again : (o : Option Place) (payload : List ℕ) → gate_place (Some (gate_place o payload)) payload ≡ gate_place o payload
gate_again None payload = refl
gate_again (Some p) payload = stays_by p payload (eqb p.version 1) refl

module _ {S : Type 0} (m : Meaning S) where
  pub place_stays : (kept : Kept S) {place : Place} → kept.place ≡ Some place → wants_generation kept.place ≡ false
      → place_for m kept ≡ place
  place_stays kept {place} there none = gate_stays kept.place (m.payload kept.state) place there none

  pub place_is_renewed : (kept : Kept S) → wants_generation kept.place ≡ true
      → place_for m kept ≡ renewed_place kept.place (m.payload kept.state)
  place_is_renewed kept wants = gate_is_renewed kept.place (m.payload kept.state) wants

  -- ---- it is there, it is missing, or a generation comes before it

  pub readied_waiting : {v : View} {kept : Kept S} {place : Place} {E : Type 0} {x : Unit {0}} → kept.place ≡ Some place
      → kept.has_gate ≡ true → AllRest m kept v → Readied {E = E} m v v kept place (Ok x)
  readied_waiting {v} {kept} {place} there has rest =
      let same : kept ≡ at_gate kept.state place = λ i. record { state = kept.state; place = there i; has_gate = has i } in
      record {
        leaves = leaves_none (λ files images _. inl (rest_in_each m rest files images));
        rest = subst (λ k. AllRest m k v) same rest;
      }

  -- the missing gate was added, which is closed in each image
  pub readied_missing : {old new : View} {kept : Kept S} {place : Place} (r : Result Unit JournalError)
      → ((f : FileName) → new.image f (new.reads f)) → kept.place ≡ Some place → kept.has_gate ≡ false → AllRest m kept old
      → Shut old new place.file place.next r → Readied m old new kept place r
  readied_missing {old} {new} {kept} {place} r reads there missing rest shut = record {
    leaves = leaves_by_writing shut.writes (λ files others named has. no_gate (sym missing ∙ has));
    rest = at_ok r shut.shut shut.stable shut.front;
  }
    where
      stood : StandsAt m old.reads kept.state (Some place)
      stood = subst (λ p. StandsAt m old.reads kept.state p) there rest.rests.stands

      at_ok : (r : Result Unit JournalError) → OnOk r (IsShut new place.file place.next) → OnOk r (IsStable new place.file)
          → OnOk r (take place.next (new.reads place.file) ≡ take place.next (old.reads place.file))
          → OnOk r (AllRest m (at_gate kept.state place) new)
      at_ok (Ok x) closed stable front = record {
        stable = stable_by_writing shut.writes rest.stable stable;
        rests = rests_front m old.reads new.reads kept.state place stood shut.writes.other_reads front
            (closed (new.reads place.file) (reads place.file));
      }
      at_ok (Err e) closed stable front = tt

  -- the gate behind a generation with the payload of the state that is kept
  abbrev behind_payload : Kept S → Kept S
  behind_payload kept = at_gate kept.state (renewed_place kept.place (m.payload kept.state))

  module _ {old new : View} {kept : Kept S} (wants : wants_generation kept.place ≡ true) where
    -- While that is put on the other file, the files rest at what is kept or at this gate, whether or not one was there before.
    pub renewed_leaves : {T E : Type 0} {r : Result T E} → Renewed m old new kept (behind_payload kept) r
        → LeavesFiles old new (RestsFrom m kept)
    renewed_leaves renewed =
        leaves_wider renewed.replaced
        (λ files rests.
        ⊎_elim
        (λ before. inl before)
        (λ there. inr (subst (λ p. RestsAt m (at_gate kept.state p) files) (sym (place_is_renewed kept wants)) there))
        rests)

    pub readied_renewed : {T E F : Type 0} {x : T} {y : Unit {0}} → Renewed {T = T} {E = E} m old new kept (behind_payload kept) (Ok x)
        → Readied {E = F} m old new kept (place_for m kept) (Ok y)
    readied_renewed renewed = record {
      leaves = leaves_wider (renewed_leaves renewed) (λ files from _. from);
      rest = subst (λ p. AllRest m (at_gate kept.state p) new) (sym (place_is_renewed kept wants)) renewed.rest;
    }

    -- or the disk failed before it was whole
    pub readied_not_renewed : {T E F : Type 0} {r : Result T E} {place : Place} (s : Result Unit F) → IsErr s
        → Renewed m old new kept (behind_payload kept) r → Readied m old new kept place s
    readied_not_renewed {place = place} s failed renewed = record {
      leaves = leaves_wider (renewed_leaves renewed) (λ files from _. from);
      rest = IfOk-from_err s (λ _. AllRest m (at_gate kept.state place) new) failed;
    }

  -- ---- the record behind it

  module _ {old mid : View} {kept after : Kept S} {place : Place} {E : Type 0} where
    -- it isn't begun,
    pub committed_early : {s : Result Unit E} {F : Type 0} (r : Result ℕ F) → IsErr r → Readied m old mid kept place s
        → Committed m old mid kept after r
    committed_early r failed ready = record {
      written = leaves_wider ready.leaves (λ files from has. inl (from has));
      rest = IfOk-from_err r (λ _. AllRest m after mid) failed;
    }

  module _ (kept : Kept S) {place : Place} (is : place ≡ place_for m kept) where
    -- or it is written behind the gate that was made ready, which is the next one of what is kept:
    at_next : (files : Files) → RestsFrom m (at_gate kept.state place) files → RestsFrom m kept files
    at_next files (inl rests) = inr (subst (λ p. RestsAt m (at_gate kept.state p) files) is rests)
    at_next files (inr rests) =
        let again = ap (λ p. gate_place (Some p) (m.payload kept.state)) is ∙ gate_again kept.place (m.payload kept.state) in
        inr (subst (λ p. RestsAt m (at_gate kept.state p) files) again rests)

    from_gate : (after : Kept S) (files : Files) → RestsBetween m (at_gate kept.state place) after files
        → RestsFrom m kept files ⊎ RestsAt m after files
    from_gate after files between = ⊎_elim (λ from. inl (at_next files from)) (λ behind. inr behind) (between refl)

  module _ {old mid new : View} {kept after : Kept S} {place : Place} {F : Type 0} {r : Result ℕ F} (is : place ≡ place_for m kept) where
    -- where the files rested at what is kept or at that gate all the while, they do so on, or rest behind the record,
    pub written_by : LeavesFiles old mid (RestsFrom m kept) → Committed m mid new (at_gate kept.state place) after r
        → LeavesFiles old new (λ files. RestsFrom m kept files ⊎ RestsAt m after files)
    written_by leaves commit =
        leaves_then (leaves_wider leaves (λ files from. inl from)) (leaves_wider commit.written (from_gate kept is after))

    -- and likewise where they did so if a gate was there
    pub committed_by : {E : Type 0} {x : Unit {0}} → Readied {E = E} m old mid kept place (Ok x)
        → Committed m mid new (at_gate kept.state place) after r → Committed m old new kept after r
    committed_by ready commit = record {
      written = leaves_then
          (leaves_wider ready.leaves (λ files from has. inl (from has)))
          (leaves_wider commit.written (λ files between _. from_gate kept is after files between));
      rest = commit.rest;
    }
