-- This file shows what is told of the start of a store: both files are synced, the payload of the newest is opened, and then its
-- records are made again.
use Rattle.std.proofs.Common.{◌≡◌, ◌≢◌, refl, sym, ap, subst}
use Rattle.std.specs.Prelude.{Result, Ok, Err, IfOk}
use Rattle.outside_world.specs.View.{View, Moment, MayLeave, AllStable}
use Rattle.record_codec.specs.declared.snapshot.Snapshot.{Snapshot}
use Rattle.realm_insert.specs.Snapshots.{state_of}
use Rattle.realm_journal.specs.Reading.{OnlyAsks}
use Rattle.realm_pages.specs.declared.damage.Damage.{Damage}
use Rattle.realm_pages.specs.declared.error.PagesError.{PagesError}
use Rattle.realm_pages.specs.declared.error.PagesError.TheVariants.{Disk, Damaged, NoMemory}
use Rattle.realm_pages.proofs.Asks.{asks_none, asks_then}
use Rattle.realm_files.specs.Stands.{Files}
use Rattle.realm_files.specs.Keeping.{KnowsGate}
use Rattle.realm_files.specs.Syncing.{Synced}
use Rattle.realm_files.proofs.Pairs.{same_files}
use Rattle.realm_files.proofs.Rests.{stable_then, rest_then}
use Rattle.realm_files.proofs.Syncs.{opened as opened_since}
use Rattle.realm_store.specs.declared.opening.Base.{Base}
use Rattle.realm_store.specs.declared.opening.Opened.{Opened}
use Rattle.realm_store.specs.Stands.{meaning}
use Rattle.realm_store.specs.Keeping.{SpendableKept, RestsAt, AllRest}
use Rattle.realm_store.specs.Damages.{IsDamaged}
use Rattle.realm_store.specs.Journals.{StandsFrom, HasJournal}
use Rattle.realm_store.specs.Opening.{IsBase, BaseFound, BaseOpened, RecordsOpened}
use Rattle.realm_store.specs.Starting.{Started}
use Rattle.realm_store.proofs.Errors.{same_error}

-- ---- files that were synced, and then only read

-- where nothing was written, the payload is found as it was
pub base_behind : {old mid new : View} {x : Unit {0}} {r : Result Base PagesError} → Synced old mid (Ok x) → BaseFound mid new r
    → BaseOpened old new r
base_behind {old} {r = r} synced found =
    let same : old.reads ≡ _ = sym (same_files synced.asks.files.reads) in
    record {
      found = record {
        asks = asks_then synced.asks found.asks;
        base = subst (λ (f : Files). IfOk r (λ base. IsBase f base.engine.state base.place)) (sym same) found.base;
        damaged = λ d is. subst (λ f. IsDamaged d f) (sym same) (found.damaged d is);
      };
      stable = λ _. stable_then found.asks.files synced.stable;
    }

-- the first part of a start, up to a view
module _ {old new : View} (asks : OnlyAsks old new) (only_old : (a : Moment) → old.left_since old.moment a → MayLeave old a)
    (only_new : (a : Moment) → new.left_since new.moment a → MayLeave new a) where
  -- both files were synced, and are told of as they were read
  told_of : (r : Result SpendableKept PagesError) → (r ≢ Err Disk → AllStable new)
      → IfOk r (λ store. RestsAt store.kept old.reads × KnowsGate store.kept old.reads)
      → ((d : Damage) → r ≡ Err (Damaged d) → IsDamaged d old.reads) → Started old new r
  told_of r stable stands damaged = record {
    asks = asks;
    opened = λ not_disk.
        let synced : Synced old new (Ok tt) = record { asks = asks; stable = stable not_disk } in
        opened_since synced asks_none only_old only_new;
    stands = stands;
    damaged = damaged;
  }

  -- memory ran out, the disk failed or the files are damaged
  unstarted : (e : PagesError) → (e ≢ Disk → AllStable new) → ((d : Damage) → e ≡ Damaged d → IsDamaged d old.reads)
      → Started old new (Err e)
  unstarted e stable damaged =
      told_of (Err e) (λ not_disk. stable (λ is. not_disk (ap Err is))) tt
      (λ d is. damaged d (same_error e (Damaged d) refl is))

  -- the payload of the newest wasn't opened
  pub no_base : (e : PagesError) → BaseOpened old new (Err e) → Started old new (Err e)
  no_base e first =
      unstarted e (λ not_disk. first.stable (λ is. not_disk (same_error e Disk refl is))) (λ d is. first.found.damaged d (ap Err is))

module _ {old mid : View} {base : Base} (first : BaseOpened old mid (Ok base)) where
  same : mid.reads ≡ old.reads
  same = same_files first.found.asks.files.reads

  stable : AllStable mid
  stable = first.stable (λ no. cc)

  -- the payload is still there when the records are read
  pub based : IsBase mid.reads base.engine.state base.place
  based = subst (λ f. IsBase f base.engine.state base.place) (sym same) first.found.base

  pub journal_kept : {new : View} {opened : Opened} (snapshot : Snapshot) → state_of snapshot ≡ base.engine.state
      → RecordsOpened mid new base.engine.state (Ok opened) → HasJournal old.reads opened.store.kept snapshot opened.records
  journal_kept {opened = opened} snapshot is then =
      let kept = opened.store.kept in
      let records = opened.records in
      let at_base = subst (λ (f : Files). StandsFrom f kept.state kept.place base.engine.state records) same then.read.journal in
      subst (λ s. StandsFrom old.reads kept.state kept.place s records) (sym is) at_base

  -- memory ran out before its state was copied
  pub not_copied : ((a : Moment) → old.left_since old.moment a → MayLeave old a)
      → ((a : Moment) → mid.left_since mid.moment a → MayLeave mid a) → Started old mid (Err NoMemory)
  not_copied only_old only_mid = unstarted first.found.asks only_old only_mid NoMemory (λ _. stable) (λ d no. absurd cc)

  module _ {new : View} (only_old : (a : Moment) → old.left_since old.moment a → MayLeave old a)
      (only_new : (a : Moment) → new.left_since new.moment a → MayLeave new a) where
    -- the records were made again, and so the store is started,
    pub started : {opened : Opened} → RecordsOpened mid new base.engine.state (Ok opened) → Started old new (Ok opened.store)
    started {opened} then =
        told_of (asks_then first.found.asks then.asks) only_old only_new (Ok opened.store) (λ _. stable_then then.asks.files stable)
        (subst (λ (f : Files). RestsAt opened.store.kept f × KnowsGate opened.store.kept f) same (then.read.rests, then.read.knows))
        (λ d no. absurd cc)

    -- or they were not
    pub unopened : (e : PagesError) → RecordsOpened mid new base.engine.state (Err e) → Started old new (Err e)
    unopened e then =
        unstarted (asks_then first.found.asks then.asks) only_old only_new e (λ _. stable_then then.asks.files stable)
        (λ d is. subst (λ f. IsDamaged d f) same (then.damaged d (ap Err is)))

  -- whatever a crash may leave is what was read
  pub rests_read : {new : View} {opened : Opened} → RecordsOpened mid new base.engine.state (Ok opened) → AllRest opened.store.kept new
  rests_read then = rest_then meaning then.asks.files (record { stable = stable; rests = then.read.rests })
