-- Files that are synced before they are read.
use Rattle.std.specs.Prelude.{◌≡◌, ◌⊎◌, ◌≤◌, ℕ, Result, OnOk}
use Rattle.outside_world.specs.declared.world.FileName.{FileName}
use Rattle.outside_world.specs.declared.world.Failed.{Failed}
use Rattle.outside_world.specs.View.{View, Moment, MayLeave, AllStable}
use Rattle.realm_journal.specs.Reading.{OnlyAsks}

-- From some moment of the run on, each crash leaves both files as they were read; before it, each leaves what it
-- could leave at the call.
pub record IsOpened (old new : View) : Type 0 where
  pub since : ℕ
  pub begun : old.moment ≤ since
  pub by_now : since ≤ new.moment
  pub before : (m : Moment) → new.left_since old.moment m → MayLeave old m ⊎ new.left_since since m
  pub settled : (m : Moment) → new.left_since since m → (m.given ≡ old.given) × ((f : FileName) → m.files f ≡ old.reads f)

-- both were synced, and nothing else happened; or the disk failed
pub record Synced (old new : View) (result : Result Unit Failed) : Type 0 where
  pub asks : OnlyAsks old new
  pub stable : OnOk result (AllStable new)
