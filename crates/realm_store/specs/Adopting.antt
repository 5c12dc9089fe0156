-- What a state from elsewhere makes of what is kept of the files, where it takes the place of that.
use Rattle.std.specs.Prelude.{◌≡◌, ◌<◌, true, Some}
use Rattle.record_codec.specs.declared.snapshot.Snapshot.{Snapshot}
use Rattle.record_codec.specs.Payload.{payload}
use Rattle.realm_insert.specs.Snapshots.{state_of, IsValidState}
use Rattle.realm_files.specs.Writing.{renewed_place}
use Rattle.realm_store.specs.Sound.{IsSound}
use Rattle.realm_store.specs.Keeping.{Kept}
use Rattle.realm_store.specs.Renewing.{HasLastGeneration}

-- the state of the snapshot is valid and has more changes, and a greater generation is left
pub record MayReplace (old : Kept) (s : Snapshot) : Type 0 where
  pub valid : IsValidState (state_of s)
  pub newer : old.state.changes < s.changes
  pub greater : HasLastGeneration old → ⊥

-- It takes the place of what is kept, and is sound. The snapshot is the payload of the next generation, on the file that wasn't
-- the newest, without a record.
pub record Adopts (old : Kept) (s : Snapshot) (new : Kept) : Type 0 where
  pub may : MayReplace old s
  pub state : new.state ≡ state_of s
  pub place : new.place ≡ Some (renewed_place old.place (payload s))
  pub has_gate : new.has_gate ≡ true
  pub sound : IsSound new.state
