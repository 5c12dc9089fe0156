-- What the store's answer to a command is at the desk. No public clause cites this file.
use Rattle.std.specs.Prelude.{◌≡◌, ◌≢◌, ℕ, List, false, Result, Err, IfOk, IfErr, OnOk, IsErrOf}
use Rattle.outside_world.specs.declared.world.Outside.{Ghosts}
use Rattle.realm_store.specs.Keeping.{SpendableKept}
use Rattle.rose_shell.specs.declared.fault.Fault.{Fault}
use Rattle.rose_shell.specs.declared.fault.Fault.TheVariants.{Disk, NoMemory}
use Rattle.rose_shell.specs.Faults.{IsCaused}
use Rattle.rose_shell.specs.Answers.{Outcome, StoreAnswers}
use Rattle.rose_shell.specs.Desk.{Answered}
use Rattle.rose_shell.specs.Running.{StoreTerms}

-- all that a desk promises of its answer
pub record AtDesk {World : Type 0} (outside : Ghosts World) (old new : World) (start end : SpendableKept) (line : List ℕ)
    (result : Result (List ℕ) Fault) : Type 0 where
  pub answer : IfOk result (λ reply. StoreAnswers start line reply end)
  pub ready : result ≢ Err NoMemory → result ≢ Err Disk → end.spent ≡ false
  pub intact : OnOk result (outside.failed new ≡ false)
  pub caused : IfErr result (λ fault. IsCaused outside old new fault)
  pub spent : IsErrOf result Disk → end.spent ≡ false → ⊥
  pub told : outside.tells new → Answered StoreTerms (outside.view old) (outside.view new) start end line result

-- a command that calls no file has this outcome, which leaves what the store keeps of the files, or memory ran out
pub record IsSaid (outcome : Outcome) (old new : SpendableKept) (result : Result (List ℕ) Fault) : Type 0 where
  pub answer : IfOk result (λ reply. outcome old reply new)
  pub ready : OnOk result (new.spent ≡ false)
  pub same : OnOk result (new.kept ≡ old.kept)
  pub memory : IfErr result (λ fault. fault ≡ NoMemory)
