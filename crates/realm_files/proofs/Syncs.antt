-- This file shows what is told of files that are synced and then only read.
use Rattle.std.proofs.Common.{inl, ⊎_elim, ◌∙◌, arith, sym}
use Rattle.std.proofs.lemmas.Result.{IfOk-from_err}
use Rattle.std.specs.Prelude.{Result, Ok, Err, IsErr}
use Rattle.outside_world.specs.declared.world.FileName.TheVariants.{A, B}
use Rattle.outside_world.specs.declared.world.Failed.{Failed}
use Rattle.outside_world.specs.View.{View, Moment, MayLeave, AllStable}
use Rattle.outside_world.specs.Calls.{Synced as SyncedOne}
use Rattle.realm_journal.specs.Reading.{OnlyAsks}
use Rattle.realm_journal.proofs.StableFiles.{synced_stable}
use Rattle.realm_pages.proofs.Asks.{asks_of, asks_then}
use Rattle.realm_files.specs.Meaning.{Meaning}
use Rattle.realm_files.specs.Keeping.{Kept, RestsAt, AllRest}
use Rattle.realm_files.specs.Syncing.{IsOpened, Synced}
use Rattle.realm_files.proofs.Rests.{rest_then}

-- the first sync failed,
pub cut : {old new : View} {r : Result Unit Failed} (s : Result Unit Failed) → IsErr s → SyncedOne old new A r → Synced old new s
cut {new = new} s failed one = record { asks = asks_of one.leaves; stable = IfOk-from_err s (λ _. AllStable new) failed }

-- or a crash leaves both as they are read
pub both : {old mid new : View} {x : Unit {0}} (r : Result Unit Failed) → SyncedOne old mid A (Ok x) → SyncedOne mid new B r
    → Synced old new r
both {mid = mid} {new} (Ok y) one two = record {
  asks = asks_then (asks_of one.leaves) (asks_of two.leaves);
  stable = stable_each;
}
  where
    stable_each : AllStable new
    stable_each A c image = synced_stable one c (two.leaves.files.images A c image) ∙ sym (two.leaves.files.reads A)
    stable_each B c image = synced_stable two c image
both (Err e) one two = record { asks = asks_then (asks_of one.leaves) (asks_of two.leaves); stable = tt }

module _ {old mid new : View} {x : Unit {0}} (synced : Synced old mid (Ok x)) (asks : OnlyAsks mid new) where
  -- Each crash from then on leaves the files as they were read. Nothing was written, so each before leaves what it could.
  pub opened : ((a : Moment) → old.left_since old.moment a → MayLeave old a)
      → ((a : Moment) → mid.left_since mid.moment a → MayLeave mid a) → IsOpened old new
  opened only_old only_mid = record {
    since = mid.moment;
    begun = synced.asks.takes.later;
    by_now = asks.takes.later;
    before = λ a left.
        inl (⊎_elim (λ was. only_old a was) (λ may. may) ((asks_then synced.asks asks).crash.nothing_else old.moment a (omega arith) left));
    settled = λ a left.
        let may = ⊎_elim (λ now. only_mid a now) (λ was. was) (asks.crash.nothing_else mid.moment a (omega arith) left) in
        (may.0 ∙ synced.asks.given, λ f. synced.stable f (a.files f) (may.1 f) ∙ synced.asks.files.reads f);
  }

  -- and what they read as rests
  pub all_rest : {S : Type 0} (m : Meaning S) {kept : Kept S} → RestsAt m kept mid.reads → AllRest m kept new
  all_rest m rests = rest_then m asks.files (record { stable = synced.stable; rests = rests })
