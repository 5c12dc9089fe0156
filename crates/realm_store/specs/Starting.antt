-- What the start of a store tells, and what a crash may leave meanwhile.
use Rattle.std.specs.Prelude.{◌≡◌, ◌≢◌, Result, Err, IfOk}
use Rattle.outside_world.specs.View.{View}
use Rattle.realm_journal.specs.Reading.{OnlyAsks}
use Rattle.realm_pages.specs.declared.damage.Damage.{Damage}
use Rattle.realm_files.specs.Syncing.{IsOpened}
use Rattle.realm_files.specs.Keeping.{KnowsGate}
use Rattle.realm_store.specs.Keeping.{SpendableKept, RestsAt}
use Rattle.realm_store.specs.Damages.{IsDamaged}
use Rattle.realm_pages.specs.declared.error.PagesError.{PagesError as StartError}
use Rattle.realm_pages.specs.declared.error.PagesError.TheVariants.{Disk, Damaged}

-- Both files were synced and read, and nothing else happened. What is kept is what the files stand for; or they
-- are damaged as is told; or the disk failed or memory ran out.
pub record Started (old new : View) (result : Result SpendableKept StartError) : Type 0 where
  pub asks : OnlyAsks old new
  pub opened : result ≢ Err Disk → IsOpened old new
  pub stands : IfOk result (λ store. RestsAt store.kept old.reads × KnowsGate store.kept old.reads)
  pub damaged : (d : Damage) → result ≡ Err (Damaged d) → IsDamaged d old.reads
