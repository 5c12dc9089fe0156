-- This file shows what the status of a run says that has come to its end or to a fault.
use Rattle.std.proofs.Common.{◌≡◌, ◌⊎◌, inl, inr, false, refl, sym, ◌∙◌}
use Rattle.std.specs.Prelude.{◌≢◌, Result, Ok, Err, IfOk, IfErr, OnOk}
use Rattle.outside_world.specs.declared.world.Outside.{Ghosts}
use Rattle.realm_pages.specs.declared.damage.Damage.{Damage}
use Rattle.rose_shell.specs.declared.fault.Fault.{Fault}
use Rattle.rose_shell.specs.declared.fault.Fault.TheVariants as faults
use Rattle.rose_shell.specs.declared.status.Status.{Status}
use Rattle.rose_shell.specs.declared.status.Status.TheVariants as ends
use Rattle.rose_shell.specs.Faults.{IsCaused, HasCause, TellsFault, status_at}

-- it tells of no fault where the run has come to its end
abbrev IsEnd : Status → Type 0
IsEnd status = (status ≡ ends.Done) ⊎ (status ≡ ends.InputLimit)

pub never_usage : (r : Result Status Fault) → IfOk r IsEnd → status_at r ≢ ends.Usage
never_usage (Ok s) (inl done) is = let both = sym done ∙ is in cc
never_usage (Ok s) (inr limit) is = let both = sym limit ∙ is in cc
never_usage (Err faults.Source) end is = cc
never_usage (Err faults.Sink) end is = cc
never_usage (Err faults.Disk) end is = cc
never_usage (Err faults.NoMemory) end is = cc

pub never_damaged : (r : Result Status Fault) → IfOk r IsEnd → (d : Damage) → status_at r ≢ ends.Damaged d
never_damaged (Ok s) (inl done) d is = let both = sym done ∙ is in cc
never_damaged (Ok s) (inr limit) d is = let both = sym limit ∙ is in cc
never_damaged (Err faults.Source) end d is = cc
never_damaged (Err faults.Sink) end d is = cc
never_damaged (Err faults.Disk) end d is = cc
never_damaged (Err faults.NoMemory) end d is = cc

pub disk_failed : (r : Result Status Fault) → IfOk r IsEnd → status_at r ≡ ends.DiskFault → r ≡ Err faults.Disk
disk_failed (Ok s) (inl done) is = let both = sym done ∙ is in absurd (cc)
disk_failed (Ok s) (inr limit) is = let both = sym limit ∙ is in absurd (cc)
disk_failed (Err faults.Source) end is = absurd (cc)
disk_failed (Err faults.Sink) end is = absurd (cc)
disk_failed (Err faults.Disk) end is = refl
disk_failed (Err faults.NoMemory) end is = absurd (cc)

-- and a fault that it tells of has its cause
module _ {World : Type 0} {outside : Ghosts World} {old new : World} where
  no_cause : {status : Status} → IsEnd status → HasCause outside old new status
  no_cause (inl done) = record {
    source = λ is. let both = sym done ∙ is in absurd (cc);
    sink = λ is. let both = sym done ∙ is in absurd (cc);
    disk = λ is. let both = sym done ∙ is in absurd (cc);
  }
  no_cause (inr limit) = record {
    source = λ is. let both = sym limit ∙ is in absurd (cc);
    sink = λ is. let both = sym limit ∙ is in absurd (cc);
    disk = λ is. let both = sym limit ∙ is in absurd (cc);
  }

  pub cause_of : (r : Result Status Fault) → IfOk r IsEnd → IfErr r (IsCaused outside old new)
      → HasCause outside old new (status_at r)
  cause_of (Ok s) end caused = no_cause end
  cause_of (Err faults.Source) end caused = record { source = λ _. caused; sink = λ is. absurd (cc); disk = λ is. absurd (cc) }
  cause_of (Err faults.Sink) end caused = record { source = λ is. absurd (cc); sink = λ _. caused; disk = λ is. absurd (cc) }
  cause_of (Err faults.Disk) end caused = record { source = λ is. absurd (cc); sink = λ is. absurd (cc); disk = λ _. caused }
  cause_of (Err faults.NoMemory) end caused = record { source = λ is. absurd (cc); sink = λ is. absurd (cc); disk = λ is. absurd (cc) }

-- and where it tells of none, no call has failed
module _ {World : Type 0} (outside : Ghosts World) (old new : World) where
  pub intact_if : (r : Result Status Fault) → OnOk r (outside.failed new ≡ false) → IfErr r (IsCaused outside old new)
      → ¬ (TellsFault (status_at r)) → outside.failed new ≡ false
  intact_if (Ok s) intact caused none = intact
  intact_if (Err faults.Source) intact caused none = absurd (none tt)
  intact_if (Err faults.Sink) intact caused none = absurd (none tt)
  intact_if (Err faults.Disk) intact caused none = absurd (none tt)
  intact_if (Err faults.NoMemory) intact caused none = caused
