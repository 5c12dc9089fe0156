-- This file shows how a run ends that counts no fault.
use Rattle.std.proofs.Common.{◌≡◌, ◌⊎◌, inl, inr, ℕ, ◌≤◌, List, length, refl, ap, arith, length-append}
use Rattle.std.specs.Prelude.{◌≢◌}
use Rattle.outside_world.specs.Counts.{Rose}
use Rattle.outside_world.specs.View.{View}
use Rattle.realm_pages.specs.declared.damage.Damage.{Damage}
use Rattle.realm_pages.specs.declared.error.PagesError.{PagesError as StartError}
use Rattle.realm_pages.specs.declared.error.PagesError.TheVariants as starts
use Rattle.rose_shell.specs.declared.status.Status.{Status}
use Rattle.rose_shell.specs.declared.status.Status.TheVariants.{Done, Usage, SourceFault, SinkFault}
use Rattle.rose_shell.specs.declared.status.Status.TheVariants.{DiskFault, Damaged, NoMemory, InputLimit}
use Rattle.rose_shell.specs.Desk.{Terms}
use Rattle.rose_shell.specs.Session.{Served}
use Rattle.rose_shell.specs.Faults.{status_unstarted}

-- a count that rose later has risen since
pub rose_behind : {before mid now : ℕ} → before ≤ mid → Rose mid now → Rose before now
rose_behind early (inl more) = inl (omega (arith, early, more))
rose_behind early (inr last) = inr last

-- a store that isn't started and has no other cause wants memory
pub unstarted : {status : Status} (e : StartError) → status ≡ status_unstarted e → (e ≡ starts.Disk → ⊥)
    → ((d : Damage) → e ≡ starts.Damaged d → ⊥) → (status ≡ Done) ⊎ (status ≡ NoMemory)
unstarted starts.Disk is no_fault whole = absurd (no_fault refl)
unstarted (starts.Damaged d) is no_fault whole = absurd (whole d refl)
unstarted starts.NoMemory is no_fault whole = inr is

-- a session that tells of no fault takes its input to the end where this is within the budget, unless memory runs out
pub served_to_end : {S : Type 0} {terms : Terms S} {old new : View} {start end : S} {budget : ℕ} (status : Status)
    → Served terms old new start end budget status → status ≢ SourceFault → status ≢ SinkFault → status ≢ DiskFault
    → length old.left ≤ budget
    → (status ≡ Done) ⊎ (status ≡ NoMemory)
served_to_end Done served source sink disk within = inl refl
served_to_end Usage served source sink disk within = absurd served.ended
served_to_end SourceFault served source sink disk within = absurd (source refl)
served_to_end SinkFault served source sink disk within = absurd (sink refl)
served_to_end DiskFault served source sink disk within = absurd (disk refl)
served_to_end (Damaged d) served source sink disk within = absurd served.ended
served_to_end NoMemory served source sink disk within = inr refl
served_to_end {new = new} InputLimit served source sink disk within =
    let over = served.ended in
    let input = served.input in
    absurd (omega (
      arith,
      within,
      ap (λ (l : List ℕ). length l) input.left,
      length-append served.work.bytes new.left,
      ap (λ (l : List ℕ). length l) over.2,
      length-append over.0 over.1,
      over.3,
      over.4,
    ))
