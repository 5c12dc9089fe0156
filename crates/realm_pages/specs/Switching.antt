-- A generation that is put on a file, and what a crash may leave meanwhile.
use Rattle.std.specs.Prelude.{◌≡◌, ◌⊎◌, ◌<◌, ℕ, List, Result, OnOk}
use Rattle.outside_world.specs.declared.world.FileName.{FileName}
use Rattle.outside_world.specs.View.{View, IsStable}
use Rattle.outside_world.specs.Since.{WritesOnly, LeavesOnly}
use Rattle.realm_pages.specs.Generations.{Generation}
use Rattle.record_codec.specs.declared.header.Header.{Header}
use Rattle.realm_pages.specs.Files.{Counts, HasHead, HoldsAlone}
use Rattle.realm_pages.specs.Damages.{IsNewest}
use Rattle.realm_pages.specs.Finding.{HoldsNewest}
use Rattle.realm_journal.specs.declared.error.JournalError.{JournalError as SwitchError}

-- the file is such as a crash could have left before, or it doesn't count, or it holds the generation and no record
abbrev pub IsSwitching : View → FileName → Generation → List ℕ → Type 0
IsSwitching old file g c = old.image file c ⊎ ((Counts c → ⊥) ⊎ HoldsAlone c g)

-- it was put there and stands whole in whatever a crash may leave, which is just what is read; or the disk failed
-- before that
pub record Switched (old new : View) (file : FileName) (g : Generation)
    (result : Result ℕ SwitchError) : Type 0 where
  pub writes : WritesOnly old new file (IsSwitching old file g)
  pub whole : OnOk result ((c : List ℕ) → new.image file c → HoldsAlone c g)
  pub stable : OnOk result (IsStable new file)

-- ---- the newest of the two files meanwhile

-- Whatever a crash leaves, a file that counts has a head with a lesser generation, and this file isn't the newest.
pub record MayTake (v : View) (file : FileName) (g : Generation) : Type 0 where
  pub older : (f : FileName) (c : List ℕ) → v.image f c → Counts c
      → (h : Header) × HasHead c h × (h.generation < g.number)
  pub not_newest : (files : FileName → List ℕ) (h : Header) → ((f : FileName) → v.image f (files f))
      → IsNewest files file h → ⊥

-- the newest of these files is that of those, with all its bytes, and where none of those counts none of these
-- does
pub record HasSameNewest (before files : FileName → List ℕ) : Type 0 where
  pub newest : (f : FileName) (h : Header) → IsNewest before f h → IsNewest files f h × (files f ≡ before f)
  pub none : ((f : FileName) → Counts (before f) → ⊥) → (f : FileName) → Counts (files f) → ⊥

-- the newest is that of files that a crash could leave before, or it is this file, which holds the generation
-- and no record
abbrev pub IsNewestKept : View → FileName → Generation → (FileName → List ℕ) → Type 0
IsNewestKept old file g files =
    ((before : FileName → List ℕ) × ((f : FileName) → old.image f (before f)) × HasSameNewest before files)
    ⊎ (HoldsNewest files file g × HoldsAlone (files file) g)

-- so it is at each crash since, and after Ok it is this file in whatever a crash may leave
pub record KeepsNewest (old new : View) (file : FileName) (g : Generation)
    (result : Result ℕ SwitchError) : Type 0 where
  pub crash : LeavesOnly old new (λ m. IsNewestKept old file g m.files)
  pub newest : OnOk result ((files : FileName → List ℕ) → ((f : FileName) → new.image f (files f))
      → HoldsNewest files file g)
