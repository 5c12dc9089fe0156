-- This file shows what is told of the payload of the newest file, and of files that have none that opens a state.
use Rattle.std.proofs.Common.{◌≡◌, inl, inr, ⊎_elim, refl, sym, subst}
use Rattle.std.specs.Prelude.{Option, Some, None, Result, Ok, Err, IfOk}
use Rattle.outside_world.specs.View.{View}
use Rattle.record_codec.specs.Payload.{payload}
use Rattle.record_codec.proofs.SnapshotLemmas.{one_state as one_snapshot}
use Rattle.realm_insert.specs.State.{State, empty_state}
use Rattle.realm_insert.specs.Snapshots.{state_of, IsValidState}
use Rattle.realm_pages.specs.Finding.{IsFound, HasBadPayload, FoundNewest, generation_found}
use Rattle.realm_pages.specs.declared.damage.Damage.{Damage}
use Rattle.realm_pages.specs.declared.damage.Damage.TheVariants.{BadSnapshot}
use Rattle.realm_pages.specs.declared.found.Found.{Found}
use Rattle.realm_pages.specs.declared.error.PagesError.{PagesError}
use Rattle.realm_pages.specs.declared.error.PagesError.TheVariants.{Damaged}
use Rattle.realm_files.specs.Damages.{IsNoState}
use Rattle.realm_files.specs.Stands.{Files}
use Rattle.realm_store.specs.declared.opening.Base.{Base}
use Rattle.realm_store.specs.Stands.{meaning}
use Rattle.realm_store.specs.Damages.{IsDamaged}
use Rattle.realm_store.specs.Opening.{IsBaseOn, IsBase, BaseFound}

-- ---- files that are damaged

-- the newest is at fault, or its payload is that of no snapshot
no_snapshot : {files : Files} {damage : Damage} → HasBadPayload damage files → IsNoState meaning files damage
no_snapshot bad = record {
  file = bad.file;
  generation = bad.generation;
  newest = bad.newest;
  none = λ state opens. bad.none opens.snapshot opens.is_snapshot opens.is_payload;
  is = bad.is;
}

pub newest_unfound : {old new : View} (e : PagesError) → FoundNewest old new (Err e) → BaseFound old new (Err e)
newest_unfound {old} e found = record {
  asks = found.asks;
  base = tt;
  damaged = λ d told.
      let one : Err e ≡ Err (Damaged d) = let is : e ≡ Damaged d = cc in λ i. Err (is i) in
      ⊎_elim (λ bad. inl bad) (λ bad. inr (inl (no_snapshot bad))) (found.damaged d one);
}

-- the state of the newest isn't valid
pub not_valid : {files : Files} {found : Found} {damage : Damage} → IsFound files found
    → (damage ≡ BadSnapshot found.file) × (IsValidState (state_of found.snapshot) → ⊥) → IsDamaged damage files
not_valid {found = found} is bad = inr (inl (record {
  file = found.file;
  generation = generation_found found;
  newest = is.holds;
  none = λ state opens.
      let same = one_snapshot found.snapshot opens.snapshot is.is_snapshot opens.is_snapshot opens.is_payload in
      bad.1 (subst (λ s. IsValidState (state_of s)) (sym same) opens.valid);
  is = bad.0;
}))

-- ---- a payload that is opened

-- the payload that was found opens the state of its snapshot, and there is the gate behind it
pub base_on : {files : Files} {found : Found} {state : State} → IsFound files found → state ≡ state_of found.snapshot
    → IsValidState (state_of found.snapshot)
    → IsBaseOn files state (record {
      file = found.file;
      version = found.version;
      generation = found.generation;
      next = found.end;
    })
base_on {found = found} is same valid = record {
  payload = payload found.snapshot;
  newest = is.holds;
  gate = is.end;
  opens = record {
    snapshot = found.snapshot;
    is_snapshot = is.is_snapshot;
    is_payload = refl;
    state_is = same;
    valid = valid;
  };
}

-- the newest was found, and opened then
pub found_behind : {old new : View} {found : Found} {f : Result (Option Found) PagesError} {r : Result Base PagesError}
    → FoundNewest old new f → f ≡ Ok (Some found)
    → ((files : Files) → IsFound files found → IfOk r (λ base. IsBase files base.engine.state base.place))
    → ((files : Files) (d : Damage) → IsFound files found → r ≡ Err (Damaged d) → IsDamaged d files) → BaseFound old new r
found_behind {old} {found = found} one is based damaged = record {
  asks = one.asks;
  base = based old.reads (one.found found is);
  damaged = λ d told. damaged old.reads d (one.found found is) told;
}

-- or none counts
pub none_found : {old new : View} {base : Base} {f : Result (Option Found) PagesError} → FoundNewest old new f → f ≡ Ok None
    → base.engine.state ≡ empty_state → base.place ≡ None → BaseFound old new (Ok base)
none_found {old} {base = base} one is empty nowhere = record {
  asks = one.asks;
  base = subst (λ place. IsBase old.reads base.engine.state place) (sym nowhere) (one.none is, empty);
  damaged = λ d no. absurd cc;
}
