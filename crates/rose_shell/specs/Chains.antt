-- Runs one after another, each on the files that a crash of the one before has left.
use Rattle.std.specs.Prelude.{◌≡◌, ◌⊎◌, ◌-◌, suc, List, [], ◌∷◌, length}
use Rattle.std.proofs.Common.{inl, inr}
use Rattle.outside_world.specs.View.{View, Moment, AllStable}
use Rattle.outside_world.specs.declared.world.Outside.{Ghosts}
use Rattle.realm_insert.specs.State.{State}
use Rattle.realm_files.specs.Stands.{Files}
use Rattle.realm_store.specs.Keeping.{StandsGated}
use Rattle.rose_shell.specs.declared.status.Status.{Status}
use Rattle.rose_shell.specs.Prefixes.{state_after, replies_begun}
use Rattle.rose_shell.specs.Running.{state_in, is_commit, ready_store, HasRun}

-- a run, from world to world, and a crash that came while it ran or behind it
pub record CrashedRun (World : Type 0) : Type 0 where
  pub old : World
  pub new : World
  pub status : Status
  pub crash : Moment

-- the run was made over these files, of which a crash at its call leaves what they read as, and the crash came since
pub record IsRunOver {World : Type 0} (outside : Ghosts World) (files : Files) (run : CrashedRun World) : Type 0 where
  pub tells : outside.tells run.old
  pub reads : (outside.view run.old).reads ≡ files
  pub stable : AllStable (outside.view run.old)
  pub ran : HasRun (outside.view run.old) (outside.view run.new) run.status
  pub crashed : (outside.view run.new).left_since (outside.view run.old).moment run.crash

-- the first run was made over these files, and each other over those that the crash before it has left
abbrev pub IsChain : {World : Type 0} → Ghosts World → Files → List (CrashedRun World) → Type 0
IsChain outside files [] = Unit {0}
IsChain outside files (run ∷ runs) = IsRunOver outside files run × IsChain outside run.crash.files runs

-- What a crash of a run leaves of this state: the state itself where nothing was served. Else it is served from, and the crash
-- leaves the state after k commits or after k + 1, where the replies to k of them had begun.
abbrev pub IsLeftBy : {old new : View} {status : Status} → HasRun old new status → Moment → State → State → Type 0
IsLeftBy (inl not_begun) m state after = after ≡ state
IsLeftBy {old} (inr begun) m state after =
    let start = ready_store begun.start in
    let turns = begun.served.session.work.turns in
    let k = replies_begun state_in is_commit start turns (length m.given - length old.given) in
    (begun.start.state ≡ state) × ((after ≡ state_after state_in is_commit start turns k)
    ⊎ (after ≡ state_after state_in is_commit start turns (suc k)))

-- The files stand for the state, with the byte of their next gate, and so do those that each crash leaves, for what it leaves
-- of the state before.
abbrev pub Survives : {World : Type 0} → (outside : Ghosts World) → State → (files : Files) → (runs : List (CrashedRun World))
    → IsChain outside files runs → Type 0
Survives outside state files [] chain = StandsGated files state
Survives outside state files (run ∷ runs) chain =
    StandsGated files state
    × ((after : State) × IsLeftBy chain.0.ran run.crash state after × Survives outside after run.crash.files runs chain.1)
