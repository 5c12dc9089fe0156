-- A text that is appended behind a gate, and what a crash may leave meanwhile.
use Rattle.std.specs.Prelude.{◌≡◌, ◌⊎◌, ℕ, List, take, Result, OnOk}
use Rattle.outside_world.specs.declared.world.FileName.{FileName}
use Rattle.outside_world.specs.View.{View, IsStable}
use Rattle.outside_world.specs.Since.{WritesOnly}
use Rattle.realm_journal.specs.Gates.{HasClosedAt, IsWholeAt}
use Rattle.realm_journal.specs.declared.error.JournalError.{JournalError}

-- whatever a crash leaves of the file has a closed gate at this place
abbrev pub IsShut : View → FileName → ℕ → Type 0
IsShut v file at = (c : List ℕ) → v.image file c → HasClosedAt at c

-- up to the gate the file is such as a crash could have left before, and the gate is there: closed, or open with the
-- text whole behind it
pub record IsPart (old : View) (file : FileName) (at : ℕ) (text c : List ℕ) : Type 0 where
  pub was : List ℕ
  pub could : old.image file was
  pub front : take at c ≡ take at was
  pub gate : HasClosedAt at c ⊎ IsWholeAt at text c

-- it was appended and stands whole in whatever a crash may leave, which is just what is read; or the disk failed
-- before that
pub record Appended (old new : View) (file : FileName) (at : ℕ) (text : List ℕ)
    (result : Result ℕ JournalError) : Type 0 where
  pub writes : WritesOnly old new file (IsPart old file at text)
  pub whole : OnOk result ((c : List ℕ) → new.image file c → IsWholeAt at text c)
  pub stable : OnOk result (IsStable new file)
