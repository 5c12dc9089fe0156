-- What a checkpoint makes of what is kept of the files.
use Rattle.std.specs.Prelude.{◌≡◌, ◌≤◌, ◌^◌, ℕ, true, List, Some}
use Rattle.outside_world.specs.declared.world.FileName.{FileName}
use Rattle.realm_pages.specs.Generations.{Generation}
use Rattle.realm_files.specs.Keeping.{at_gate}
use Rattle.realm_files.specs.Writing.{generation_of, next_file, next_generation, version_now, renewed_place}
use Rattle.realm_store.specs.Stands.{Opens}
use Rattle.realm_store.specs.Keeping.{Kept}

-- no greater generation may be written
abbrev pub HasLastGeneration : Kept → Type 0
HasLastGeneration kept = 2 ^ 63 ≤ generation_of kept.place

-- The state stays. It is the payload of the next generation, on the file that wasn't the newest, without a record.
pub record IsRenewed (old new : Kept) : Type 0 where
  pub state : new.state ≡ old.state
  pub payload : List ℕ
  pub opens : Opens payload old.state
  pub place : new.place ≡ Some (renewed_place old.place payload)
  pub has_gate : new.has_gate ≡ true

-- ---- a generation that is to be put on a file, for this crate's own proofs
-- it is the next one, keeps the state that is to be kept, and goes to the file that isn't the newest
pub record IsNext (kept : Kept) (file : FileName) (g : Generation) : Type 0 where
  pub file_is : file ≡ next_file kept.place
  pub version : g.version ≡ version_now
  pub number : g.number ≡ next_generation kept.place
  pub opens : Opens g.payload kept.state

-- the state, at the gate behind the next generation with this payload
abbrev pub kept_renewed : Kept → List ℕ → Kept
kept_renewed kept payload = at_gate kept.state (renewed_place kept.place payload)
