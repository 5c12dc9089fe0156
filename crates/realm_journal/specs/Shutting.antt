-- A gate that is shut before anything is written behind it.
use Rattle.std.specs.Prelude.{◌≡◌, ◌⊎◌, ◌+◌, ◌<◌, ℕ, List, length, take, drop, Result, OnOk}
use Rattle.outside_world.specs.declared.world.FileName.{FileName}
use Rattle.outside_world.specs.View.{View, IsStable}
use Rattle.outside_world.specs.Since.{WritesOnly}
use Rattle.realm_journal.specs.Gates.{IsOpenAt, IsClosedAt}
use Rattle.realm_journal.specs.Appending.{IsShut}
use Rattle.realm_journal.specs.declared.error.JournalError.{JournalError}

-- the gate is missing at the end of the file, or open
abbrev pub NeedsShutting : ℕ → List ℕ → Type 0
NeedsShutting at file = (length file ≡ at) ⊎ IsOpenAt at file

-- up to the gate the file is such as a crash could have left before, and the gate is closed or the last byte
pub record IsBarred (old : View) (file : FileName) (at : ℕ) (c : List ℕ) : Type 0 where
  pub was : List ℕ
  pub could : old.image file was
  pub front : take at c ≡ take at was
  pub gate : IsClosedAt at c ⊎ (length c < at + 2)

-- while a gate is shut, a crash leaves the file as it could before, or its gate lets nothing count
abbrev pub IsShutting : View → FileName → ℕ → List ℕ → Type 0
IsShutting old file at c = old.image file c ⊎ IsBarred old file at c

-- the gate is shut and lasts, and the rest of the file is as it was; or the disk failed before that
pub record Shut (old new : View) (file : FileName) (at : ℕ) (result : Result Unit JournalError) : Type 0 where
  pub writes : WritesOnly old new file (IsShutting old file at)
  pub shut : OnOk result (IsShut new file at)
  pub stable : OnOk result (IsStable new file)
  pub front : OnOk result (take at (new.reads file) ≡ take at (old.reads file))
  pub behind : OnOk result (drop (at + 1) (new.reads file) ≡ drop (at + 1) (old.reads file))
