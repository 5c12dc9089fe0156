-- This file shows what is told where a store isn't started.
use Rattle.std.proofs.Common.{◌≡◌, inl, inr, refl, sym, ◌∙◌}
use Rattle.outside_world.specs.View.{View, AllStable}
use Rattle.realm_journal.specs.Reading.{OnlyAsks}
use Rattle.realm_pages.specs.declared.damage.Damage.{Damage}
use Rattle.realm_store.specs.Damages.{IsDamaged}
use Rattle.realm_pages.specs.declared.error.PagesError.{PagesError as StartError}
use Rattle.realm_pages.specs.declared.error.PagesError.TheVariants as starts
use Rattle.rose_shell.specs.declared.status.Status.{Status}
use Rattle.rose_shell.specs.declared.status.Status.TheVariants as ends
use Rattle.rose_shell.specs.Faults.{status_unstarted}
use Rattle.rose_shell.specs.Running.{IsNotBegun}

-- a damage that is told was told at the start
pub damaged_at_start : (error : StartError) (status : Status) (d : Damage) → status ≡ status_unstarted error
    → status ≡ ends.Damaged d → error ≡ starts.Damaged d
damaged_at_start starts.Disk status d is told = let other : ends.DiskFault ≡ ends.Damaged d = sym is ∙ told in absurd (cc)
damaged_at_start (starts.Damaged other) status d is told =
    let one : ends.Damaged other ≡ ends.Damaged d = sym is ∙ told in cc
damaged_at_start starts.NoMemory status d is told = let other : ends.NoMemory ≡ ends.Damaged d = sym is ∙ told in absurd (cc)

-- nothing is served, for one of three causes
pub not_begun : {old new : View} (error : StartError) (status : Status) → status ≡ status_unstarted error → OnlyAsks old new
    → ((d : Damage) → error ≡ starts.Damaged d → IsDamaged d old.reads × AllStable new) → IsNotBegun old new status
not_begun starts.Disk status is asks damaged = record { asks = asks; cause = inl is }
not_begun (starts.Damaged d) status is asks damaged =
    let told = damaged d refl in
    record { asks = asks; cause = inr (inr (d, is, told.0, told.1)) }
not_begun starts.NoMemory status is asks damaged = record { asks = asks; cause = inr (inl is) }
