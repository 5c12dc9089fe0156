-- What is found on the two files.
use Rattle.std.specs.Prelude.{◌≡◌, ◌⊎◌, ℕ, List, Option, Some, None, Result, Ok, Err}
use Rattle.outside_world.specs.declared.world.FileName.{FileName}
use Rattle.outside_world.specs.View.{View}
use Rattle.record_codec.specs.declared.snapshot.Snapshot.{Snapshot}
use Rattle.record_codec.specs.Payload.{IsSnapshot, payload}
use Rattle.realm_journal.specs.Reading.{OnlyAsks}
use Rattle.realm_pages.specs.Generations.{Generation, header_of, gate_of}
use Rattle.realm_pages.specs.Files.{Counts, Holds}
use Rattle.realm_pages.specs.Damages.{IsNewest, HasDamagedPages}
use Rattle.realm_pages.specs.declared.damage.Damage.{Damage}
use Rattle.realm_pages.specs.declared.damage.Damage.TheVariants.{BadSnapshot}
use Rattle.realm_pages.specs.declared.error.PagesError.{PagesError}
use Rattle.realm_pages.specs.declared.error.PagesError.TheVariants.{Damaged}
use Rattle.realm_pages.specs.declared.found.Found.{Found}

-- the generation that was found
abbrev pub generation_found : Found → Generation
generation_found found =
    record { version = found.version; number = found.generation; payload = payload found.snapshot }

-- of the two files this one is the newest, and it holds the generation
pub record HoldsNewest (files : FileName → List ℕ) (file : FileName) (g : Generation) : Type 0 where
  pub newest : IsNewest files file (header_of g)
  pub holds : Holds (files file) g

-- this is the newest generation, whose payload is that of a state, and there is the gate of its first record
pub record IsFound (files : FileName → List ℕ) (found : Found) : Type 0 where
  pub is_snapshot : IsSnapshot found.snapshot
  pub holds : HoldsNewest files found.file (generation_found found)
  pub end : found.end ≡ gate_of (generation_found found)

-- the newest holds a generation whose payload is that of no state
pub record HasBadPayload (damage : Damage) (files : FileName → List ℕ) : Type 0 where
  pub file : FileName
  pub generation : Generation
  pub newest : HoldsNewest files file generation
  pub none : (s : Snapshot) → IsSnapshot s → generation.payload ≡ payload s → ⊥
  pub is : damage ≡ BadSnapshot file

-- The files were read, and nothing else happened: neither counts, or the newest is found, or they have the
-- damage that is told; or the disk failed or memory ran out.
pub record FoundNewest (old new : View) (result : Result (Option Found) PagesError) : Type 0 where
  pub asks : OnlyAsks old new
  pub none : result ≡ Ok None → (file : FileName) → Counts (old.reads file) → ⊥
  pub found : (found : Found) → result ≡ Ok (Some found) → IsFound old.reads found
  pub damaged : (damage : Damage) → result ≡ Err (Damaged damage)
      → HasDamagedPages damage old.reads ⊎ HasBadPayload damage old.reads
