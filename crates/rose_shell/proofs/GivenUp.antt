-- This file shows what is promised of a session behind which an open group is given up.
use Rattle.std.proofs.Common.{◌≡◌, ◌⊎◌, ℕ, true, false, ap}
use Rattle.std.specs.Prelude.{◌≢◌, Result, Err, IfOk, IfErr, OnOk, IsErrOf}
use Rattle.outside_world.specs.GoesOn.{GoesOn}
use Rattle.outside_world.specs.declared.world.Outside.{Ghosts}
use Rattle.realm_store.specs.Keeping.{SpendableKept, without_group}
use Rattle.rose_shell.specs.declared.fault.Fault.{Fault}
use Rattle.rose_shell.specs.declared.fault.Fault.TheVariants as faults
use Rattle.rose_shell.specs.declared.status.Status.{Status}
use Rattle.rose_shell.specs.declared.status.Status.TheVariants.{Done, DiskFault, NoMemory, InputLimit}
use Rattle.rose_shell.specs.Faults.{IsCaused, status_at}
use Rattle.rose_shell.specs.Session.{Served}
use Rattle.rose_shell.specs.Running.{StoreTerms, IsSoundStore, Serves}
use Rattle.rose_shell.proofs.AtDesk.{not_false}
use Rattle.rose_shell.proofs.Ends.{never_usage, never_damaged, disk_failed, cause_of, intact_if}
use Rattle.rose_shell.proofs.Rises.{served_to_end}
use Rattle.rose_shell.proofs.Sessions.{has_served, rests_in_the_end}

-- the store has sound states at the call, and each line is one step; a store that isn't ready is spent, and stays so
module _ {World : Type 0} (outside : Ghosts World) (old new : World) (start last end : SpendableKept) (budget : ℕ)
    (r : Result Status Fault) where
  pub serves_by : IsSoundStore start → IfOk r (λ s. (s ≡ Done) ⊎ (s ≡ InputLimit))
      → (outside.tells new → Served StoreTerms (outside.view old) (outside.view new) start last budget (status_at r))
      → OnOk r (outside.failed new ≡ false) → IfErr r (λ fault. IsCaused outside old new fault)
      → (r ≢ Err faults.NoMemory → r ≢ Err faults.Disk → last.spent ≡ false)
      → (IsErrOf r faults.Disk → last.spent ≡ false → ⊥) → GoesOn outside old new
      → (last.spent ≡ false → end ≡ without_group last.kept) → (last.spent ≡ true → end.spent ≡ true)
      → Serves outside old new start end budget (status_at r)
  serves_by sound ends told intact caused ready spent goes_on given_up still_spent =
      let cause = cause_of r ends caused in
      let up : status_at r ≢ NoMemory → status_at r ≢ DiskFault → end ≡ without_group last.kept =
      λ no_memory no_fault. given_up (ready (λ is. no_memory (ap status_at is)) (λ is. no_fault (ap status_at is))) in
      record {
        told = λ tells. has_served (outside.view old) (outside.view new) start last end budget (status_at r) sound up (told tells);
        ended = record {
          never_usage = never_usage r ends;
          never_damaged = never_damaged r ends;
          faults = cause;
          intact = λ tells_none. intact_if outside old new r intact caused tells_none;
          complete = λ tells source sink disk within.
              served_to_end (status_at r) (told tells) (λ is. source (cause.source is)) (λ is. sink (cause.sink is))
              (λ is. disk (cause.disk is)) within;
        };
        store = record {
          ready = λ no_memory no_fault. ap (λ (s : SpendableKept). s.spent) (up no_memory no_fault);
          spent = λ fault. still_spent (not_false last.spent (spent (disk_failed r ends fault)));
          alone = λ no_memory no_fault. ap (λ (s : SpendableKept). s.group) (up no_memory no_fault);
          rest = λ no_memory no_fault tells. rests_in_the_end up (told tells) no_memory no_fault;
        };
        goes_on = goes_on;
      }
