-- What is promised of the word `run`, and of `serve`: each line is answered by the table of lines, each state on
-- the way is sound, and each crash leaves files that stand for the state after the commits answered so far, or
-- after one more. A commit is a change outside a group, or a whole group.
use Rattle.std.specs.Prelude.{◌≡◌, ◌≢◌, ◌⊎◌, ◌≤◌, ◌^◌, ℕ, Bool, true, false, None}
use Rattle.std.specs.Prelude.{List, [], ◌∷◌, All, length, nat_lt}
use Rattle.std.proofs.Common.{inl, refl}
use Rattle.outside_world.specs.Counts.{Rose}
use Rattle.outside_world.specs.GoesOn.{GoesOn}
use Rattle.outside_world.specs.View.{View, Asked, Moment, MayLeave, AllStable}
use Rattle.outside_world.specs.Since.{LeavesOnly}
use Rattle.outside_world.specs.declared.world.Outside.{Ghosts}
use Rattle.line_grammar.specs.Lines.{Says}
use Rattle.line_grammar.specs.declared.command.Change.{Change}
use Rattle.line_grammar.specs.declared.command.Command.TheVariants as commands
use Rattle.realm_insert.specs.State.{State}
use Rattle.realm_journal.specs.Reading.{OnlyAsks}
use Rattle.realm_files.specs.Stands.{Files}
use Rattle.realm_files.specs.Keeping.{KnowsGate}
use Rattle.realm_files.specs.Writing.{RestsFrom}
use Rattle.realm_store.specs.Stands.{meaning}
use Rattle.realm_store.specs.Keeping.{Kept, SpendableKept, RestsAt, AllRest, StandsGated}
use Rattle.realm_store.specs.Keeping.{present, HasGroup, HasNoGroup, without_group}
use Rattle.realm_store.specs.Sound.{IsSound}
use Rattle.realm_store.specs.Damages.{IsDamaged}
use Rattle.realm_pages.specs.declared.damage.Damage.{Damage}
use Rattle.query_batch.specs.Answers.{TellsLine}
use Rattle.rose_shell.specs.Answers.{StoreAnswers}
use Rattle.rose_shell.specs.Desk.{Terms}
use Rattle.rose_shell.specs.Faults.{HasCause, TellsFault}
use Rattle.rose_shell.specs.Turns.{Turn, end_of}
use Rattle.rose_shell.specs.Moments.{IsMoment}
use Rattle.rose_shell.specs.Session.{IsAnswered, Served}
use Rattle.rose_shell.specs.Prefixes.{IsCounted, IsPrefixMoment}
use Rattle.rose_shell.specs.declared.status.Status.{Status}
use Rattle.rose_shell.specs.declared.status.Status.TheVariants.{Done, Usage, DiskFault, Damaged, NoMemory}

-- the line is the text of a change
abbrev pub IsChangeLine : List ℕ → Type 0
IsChangeLine line = (c : Change) × Says line (commands.Change c)

-- the line is the text of a change or of a checkpoint where no group is open, or of the commit of one
abbrev pub IsWritingLine : SpendableKept → List ℕ → Type 0
IsWritingLine s line =
    ((IsChangeLine line ⊎ Says line commands.Checkpoint) × HasNoGroup s)
    ⊎ (Says line commands.Commit × HasGroup s)

-- What the store goes by at the desk. Outside a group a change and a checkpoint write, in one only its commit does. The files
-- rest at what is kept, or at its next gate once that is there. Where the byte of this gate is missing, nothing is said of them
-- in a crash, until a commit has added it, or put a generation on the other file.
abbrev pub StoreTerms : Terms SpendableKept
StoreTerms = record {
  answers = StoreAnswers;
  tells = λ s line reply. TellsLine (present s) line reply;
  writes = IsWritingLine;
  same = λ s t. s.kept ≡ t.kept;
  same_here = λ s. refl;
  stands = λ s files. s.kept.has_gate ≡ true → RestsFrom meaning s.kept files;
  rests = λ s files. RestsAt s.kept files;
  rest_stands = λ s files rests has. inl rests;
}

-- the state that the files keep
abbrev pub state_in : SpendableKept → State
state_in s = s.kept.state

-- that state and the one at present are sound
abbrev pub IsSoundStore : SpendableKept → Type 0
IsSoundStore s = IsSound s.kept.state × IsSound (present s)

-- from a store, this turn was a commit: a change outside a group, or the end of a group with a change
abbrev pub is_commit : SpendableKept → Turn SpendableKept → Bool
is_commit start turn = nat_lt start.kept.state.changes turn.after.kept.state.changes

-- the files stand for the state, and the byte of their next gate is there
abbrev pub StandForState : State → Files → Type 0
StandForState state files = StandsGated files state

-- A crash of this session at which k commits had replies that had begun: the files stand for the state after k commits, or
-- after k + 1, and the byte of their next gate is there.
abbrev pub IsCrashOf : SpendableKept → List (Turn SpendableKept) → List ℕ → Moment → Type 0
IsCrashOf start turns given m = IsPrefixMoment state_in is_commit StandForState start turns given m

-- a turn that begins and ends in a group leaves both files as they were
abbrev pub AreUntouched : SpendableKept → Files → List (Turn SpendableKept) → Type 0
AreUntouched start files [] = Unit {0}
AreUntouched start files (turn ∷ turns) =
    (HasGroup start → HasGroup turn.after → turn.files ≡ files) × AreUntouched turn.after turn.files turns

-- The store has served the world. Its states are sound at the start and after each turn. Each turn was a commit with a reply,
-- or has left the state that the files keep as it was, and within a group no file is touched. Where the byte of the next gate
-- was there at the start, each crash since is one of this session. But for a disk fault all is at rest in the end, as it is
-- kept after the last line. A group that is open then is given up.
pub record HasServed (old new : View) (start end : SpendableKept) (budget : ℕ) (status : Status)
    : Type 0 where
  -- the store after the last line
  pub last : SpendableKept
  pub session : Served StoreTerms old new start last budget status
  pub given_up : status ≢ NoMemory → status ≢ DiskFault → end ≡ without_group last.kept
  pub sound : IsSoundStore start × All (λ turn. IsSoundStore turn.after) session.work.turns
  pub grouped : AreUntouched start old.reads session.work.turns
  pub counted : IsCounted state_in is_commit start session.work.turns
  pub prefix : start.kept.has_gate ≡ true → LeavesOnly old new (IsCrashOf start session.work.turns old.given)
  pub rest : status ≢ DiskFault → AllRest (end_of start session.work.turns).kept new

-- How the status came about: a fault that it tells of has its cause, and no call has failed where it tells of none. Where none
-- fails and the input ends within the budget, nothing but memory can be wanting.
pub record HasStatus {World : Type 0} (outside : Ghosts World) (old new : World) (budget : ℕ) (status : Status)
    : Type 0 where
  pub never_usage : status ≢ Usage
  pub never_damaged : (d : Damage) → status ≢ Damaged d
  pub faults : HasCause outside old new status
  pub intact : ¬ (TellsFault status) → outside.failed new ≡ false
  pub complete : outside.tells new
      → ¬ (Rose (outside.source_faults old) (outside.source_faults new))
      → ¬ (Rose (outside.sink_faults old) (outside.sink_faults new))
      → ¬ (Rose (outside.disk_faults old) (outside.disk_faults new))
      → length (outside.view old).left ≤ budget
      → (status ≡ Done) ⊎ (status ≡ NoMemory)

-- Whether the store can go on: but for want of memory and a disk fault it can, is at rest and has no group; after a disk fault
-- it can't.
pub record LeavesStore {World : Type 0} (outside : Ghosts World) (new : World) (end : SpendableKept) (status : Status)
    : Type 0 where
  pub ready : status ≢ NoMemory → status ≢ DiskFault → end.spent ≡ false
  pub spent : status ≡ DiskFault → end.spent ≡ true
  pub alone : status ≢ NoMemory → status ≢ DiskFault → end.group ≡ None
  pub rest : status ≢ NoMemory → status ≢ DiskFault → outside.tells new → AllRest end.kept (outside.view new)

-- what `serve` promises: what was served where the world tells it, how the status came about, and what has become of the store
pub record Serves {World : Type 0} (outside : Ghosts World) (old new : World) (start end : SpendableKept) (budget : ℕ)
    (status : Status) : Type 0 where
  pub told : outside.tells new → HasServed (outside.view old) (outside.view new) start end budget status
  pub ended : HasStatus outside old new budget status
  pub store : LeavesStore outside new end status
  pub goes_on : GoesOn outside old new

-- Nothing was taken, given or written: the disk failed, memory ran out, or the files are damaged as is told,
-- and a crash now leaves each as it reads.
pub record IsNotBegun (old new : View) (status : Status) : Type 0 where
  pub asks : OnlyAsks old new
  pub cause : (status ≡ DiskFault) ⊎ ((status ≡ NoMemory)
      ⊎ ((d : Damage) × (status ≡ Damaged d) × IsDamaged d old.reads × AllStable new))

-- a store that keeps this, has no group and isn't spent
abbrev pub ready_store : Kept → SpendableKept
ready_store = without_group

-- What the files stand for at the call is what is served from, with the budget of a run. Each crash since the call leaves what
-- one could leave at the call, or is one of this session; from some moment on it is one. And so is each take since the call.
pub record HasBegun (old new : View) (status : Status) : Type 0 where
  pub start : Kept
  pub rests : RestsAt start old.reads
  pub knows : KnowsGate start old.reads
  pub end : SpendableKept
  pub served : HasServed old new (ready_store start) end (2 ^ 40) status
  pub since : ℕ
  pub begun : old.moment ≤ since
  pub by_now : since ≤ new.moment
  pub before : (m : Moment) → new.left_since old.moment m → MayLeave old m
      ⊎ IsMoment StoreTerms.same StoreTerms.stands (ready_store start) old.reads served.session.work.turns old.given m
  pub settled : start.has_gate ≡ true → (m : Moment) → new.left_since since m
      → IsCrashOf (ready_store start) served.session.work.turns old.given m
  pub first_asked : (a : Asked) → new.asked_since old.moment a → IsAnswered old (2 ^ 40) served.session.work.turns a

-- what a run has done
abbrev pub HasRun : View → View → Status → Type 0
HasRun old new status = IsNotBegun old new status ⊎ HasBegun old new status
