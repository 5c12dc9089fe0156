-- What a part of a session of single lines has done with some of them. No public clause cites this file.
use Rattle.std.specs.Prelude.{◌≡◌, ◌≢◌, ℕ, List, [], ◌++◌, false}
use Rattle.outside_world.specs.View.{View}
use Rattle.outside_world.specs.Since.{TakesNone}
use Rattle.outside_world.specs.declared.world.Outside.{Ghosts}
use Rattle.rose_shell.specs.declared.status.Status.{Status}
use Rattle.rose_shell.specs.declared.status.Status.TheVariants.{Done, Usage, SourceFault, SinkFault}
use Rattle.rose_shell.specs.declared.status.Status.TheVariants.{DiskFault, Damaged, NoMemory, InputLimit}
use Rattle.rose_shell.specs.Faults.{HasCause, TellsFault}
use Rattle.rose_shell.specs.Desk.{Terms}
use Rattle.rose_shell.specs.Turns.{Turn, end_of, replies, lines_of}
use Rattle.rose_shell.specs.Moments.{FollowsTurns}
use Rattle.rose_shell.specs.Session.{IsGivenInPart, IsCutOff}
use Rattle.rose_shell.specs.OneByOne.{IsRunAlone}

-- these lines were answered one by one, and their replies given whole
pub record Did {S : Type 0} (terms : Terms S) (old new : View) (start end : S) (lines : List (List ℕ)) : Type 0 where
  pub turns : List (Turn S)
  pub is_run : IsRunAlone terms.answers start turns
  pub of_lines : lines_of turns ≡ lines
  pub ends : end ≡ end_of start turns
  pub given : new.given ≡ old.given ++ replies turns
  pub takes : TakesNone old new
  pub files : FollowsTurns terms Unit old new start turns

-- how such a part halts: the sink fails within a reply, the disk within an answer, or memory runs out before the next line
abbrev pub HaltsBy : {S : Type 0} → Terms S → View → View → S → List (Turn S) → List ℕ → Status → Type 0
HaltsBy terms old new start turns unsent Done = ⊥
HaltsBy terms old new start turns unsent Usage = ⊥
HaltsBy terms old new start turns unsent SourceFault = ⊥
HaltsBy terms old new start turns unsent SinkFault = IsGivenInPart turns unsent
HaltsBy terms old new start turns unsent DiskFault = IsCutOff terms old new start turns unsent
HaltsBy terms old new start turns unsent (Damaged d) = ⊥
HaltsBy terms old new start turns unsent NoMemory = unsent ≡ []
HaltsBy terms old new start turns unsent InputLimit = ⊥

-- some of these lines were answered, until the run ended with this status
pub record Halted {S : Type 0} (terms : Terms S) (old new : View) (start : S) (lines : List (List ℕ)) (status : Status)
    : Type 0 where
  pub turns : List (Turn S)
  pub unread : List (List ℕ)
  pub unsent : List ℕ
  pub is_run : IsRunAlone terms.answers start turns
  pub of_lines : lines_of turns ++ unread ≡ lines
  pub given : new.given ++ unsent ≡ old.given ++ replies turns
  pub takes : TakesNone old new
  pub files : FollowsTurns terms (status ≢ DiskFault) old new start turns
  pub ended : HaltsBy terms old new start turns unsent status

-- how a status came about: a fault that it tells of has its cause, and no call has failed where it tells of none
pub record HasReason {World : Type 0} (outside : Ghosts World) (old new : World) (status : Status) : Type 0 where
  pub never_usage : status ≢ Usage
  pub cause : HasCause outside old new status
  pub intact : ¬ (TellsFault status) → outside.failed new ≡ false
