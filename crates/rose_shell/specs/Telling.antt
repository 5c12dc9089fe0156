-- What is done with a command. `check` and `gen` give a few lines, take none and write no file.
use Rattle.std.specs.Prelude.{◌≡◌, ◌≢◌, ◌⊎◌, ◌≤◌, ◌^◌, ℕ, List, [], length}
use Rattle.outside_world.specs.View.{View, AllStable}
use Rattle.command_words.specs.declared.word.Word.{Word}
use Rattle.command_words.specs.declared.word.Word.TheVariants.{Run, Check, Gen, Ship, Follow, Certify, Audit}
use Rattle.state_counts.specs.Counts.{TellsCounts}
use Rattle.generated_map.specs.Told.{TellsMap}
use Rattle.realm_insert.specs.State.{State}
use Rattle.realm_journal.specs.Reading.{OnlyAsks}
use Rattle.realm_store.specs.Stands.{StandsFor}
use Rattle.rose_shell.specs.Giving.{GaveSome}
use Rattle.rose_shell.specs.Auditing.{HasAudited}
use Rattle.rose_shell.specs.Running.{IsNotBegun, HasRun}
use Rattle.rose_shell.specs.Following.{HasFollowed}
use Rattle.rose_shell.specs.Shipping.{HasShipped}
use Rattle.rose_shell.specs.Certifying.{HasCertified}
use Rattle.rose_shell.specs.declared.status.Status.{Status}
use Rattle.rose_shell.specs.declared.status.Status.TheVariants.{Done, SinkFault, NoMemory}

-- these lines were given whole, or but for an end where the sink failed; nothing was taken, and all files stay
pub record GivesLines (old new : View) (lines : List ℕ) (status : Status) : Type 0 where
  pub unsent : List ℕ
  pub some : GaveSome old new lines unsent
  pub ends : ((status ≡ Done) × (unsent ≡ [])) ⊎ ((status ≡ SinkFault) × (unsent ≢ []))

-- The lines that tell how much the files stand for were given, and a crash now leaves each file as it reads.
-- Or nothing was given, since the disk failed, memory ran out or the files are damaged as is told.
abbrev pub HasChecked : View → View → Status → Type 0
HasChecked old new status =
    IsNotBegun old new status
    ⊎ ((state : State) × (lines : List ℕ) × StandsFor old.reads state × TellsCounts state lines
    × GivesLines old new lines status × AllStable new)

-- the lines that tell of the map were given, or nothing happened since memory ran out
abbrev pub HasGenerated : ℕ → ℕ → View → View → Status → Type 0
HasGenerated count start old new status =
    ((status ≡ NoMemory) × OnlyAsks old new)
    ⊎ ((lines : List ℕ) × TellsMap count start lines × GivesLines old new lines status)

-- what is done with a command
abbrev pub HasDone : Word → View → View → Status → Type 0
HasDone Run old new status = HasRun old new status
HasDone Check old new status = HasChecked old new status
HasDone (Gen count start) old new status = HasGenerated count start old new status
HasDone (Ship changes) old new status = HasShipped changes old new status
HasDone Follow old new status = HasFollowed old new (2 ^ 40) status
HasDone Certify old new status = HasCertified old new status
HasDone Audit old new status = HasAudited old new (2 ^ 40) status

-- what the command asks of the world besides: files that stand for a state, and an input within the budget
abbrev pub CanBeDone : Word → View → Type 0
CanBeDone Run v = (length v.left ≤ 2 ^ 40) × ((state : State) × StandsFor v.reads state)
CanBeDone Check v = (state : State) × StandsFor v.reads state
CanBeDone (Gen count start) v = Unit {0}
CanBeDone (Ship changes) v = (state : State) × StandsFor v.reads state
CanBeDone Follow v = (length v.left ≤ 2 ^ 40) × ((state : State) × StandsFor v.reads state)
CanBeDone Certify v = (state : State) × StandsFor v.reads state
CanBeDone Audit v = length v.left ≤ 2 ^ 40

-- the command asks nothing of the files
abbrev pub AsksNoFile : Word → Type 0
AsksNoFile Run = ⊥
AsksNoFile Check = ⊥
AsksNoFile (Gen count start) = Unit {0}
AsksNoFile (Ship changes) = ⊥
AsksNoFile Follow = ⊥
AsksNoFile Certify = ⊥
AsksNoFile Audit = Unit {0}
