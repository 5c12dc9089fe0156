-- What a follower's answer to a line is. No public clause cites this file.
use Rattle.std.specs.Prelude.{◌≡◌, ◌⊎◌, List, ℕ, None, false, Result, Err, IfOk, IfErr, OnOk}
use Rattle.outside_world.specs.declared.world.Outside.{Ghosts}
use Rattle.realm_pages.specs.declared.damage.Damage.{Damage}
use Rattle.realm_store.specs.Keeping.{SpendableKept, AllRest}
use Rattle.realm_store.specs.Sound.{IsSound}
use Rattle.rose_shell.specs.declared.status.Status.{Status}
use Rattle.rose_shell.specs.declared.status.Status.TheVariants.{DiskFault, Damaged, NoMemory}
use Rattle.rose_shell.specs.Faults.{HasCause}
use Rattle.rose_shell.specs.Following.{FollowTerms, AnsweredBy}

-- a store that is ready, has no group and a sound state, and whose files are at rest
pub record IsLeftAs {World : Type 0} (outside : Ghosts World) (world : World) (s : SpendableKept) : Type 0 where
  pub ready : s.spent ≡ false
  pub alone : s.group ≡ None
  pub sound : IsSound s.kept.state
  pub intact : outside.failed world ≡ false
  pub rest : outside.tells world → AllRest s.kept (outside.view world)

-- all that is promised of an answer to a line
pub record AtFollower {World : Type 0} (outside : Ghosts World) (old new : World) (start end : SpendableKept) (line : List ℕ)
    (result : Result (List ℕ) Status) : Type 0 where
  pub ready : OnOk result (end.spent ≡ false)
  pub alone : OnOk result (end.group ≡ None)
  pub answer : outside.tells new → IfOk result (λ reply. FollowTerms.answers start line reply end)
  pub ends : IfErr result (λ status. (status ≡ DiskFault) ⊎ ((status ≡ NoMemory) ⊎ ((d : Damage) × (status ≡ Damaged d))))
  pub faults : IfErr result (λ status. HasCause outside old new status)
  pub intact : ¬ (result ≡ Err DiskFault) → outside.failed new ≡ false
  pub told : outside.tells new → AnsweredBy FollowTerms (outside.view old) (outside.view new) start end line result
