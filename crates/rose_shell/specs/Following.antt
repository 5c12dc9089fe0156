-- What is promised of the word `follow`: each line is answered by what a follower makes of it, each state on the way is sound,
-- and each crash leaves files that stand for the state after the frames that were applied so far, or after one more.
use Rattle.std.specs.Prelude.{◌≡◌, ◌≢◌, ◌⊎◌, ◌≤◌, ℕ, Bool, true, false, None, List, All, map, Result, Ok, Err}
use Rattle.std.proofs.Common.{inl, refl}
use Rattle.outside_world.specs.View.{View, Asked, Moment, MayLeave}
use Rattle.outside_world.specs.Since.{LeavesOnly}
use Rattle.standby_core.specs.declared.frame.Frame.{Frame}
use Rattle.standby_core.specs.Frames.{IsLineOf}
use Rattle.standby_core.specs.Verdicts.{ComesNext}
use Rattle.realm_files.specs.Keeping.{KnowsGate}
use Rattle.realm_files.specs.Writing.{RestsFrom}
use Rattle.realm_store.specs.Stands.{meaning}
use Rattle.realm_store.specs.Keeping.{Kept, SpendableKept, RestsAt, AllRest}
use Rattle.realm_store.specs.Sound.{IsSound}
use Rattle.pair_law.specs.Following as law
use Rattle.rose_shell.specs.declared.status.Status.{Status}
use Rattle.rose_shell.specs.declared.status.Status.TheVariants.{Done, Usage, SourceFault, SinkFault}
use Rattle.rose_shell.specs.declared.status.Status.TheVariants.{DiskFault, Damaged, NoMemory, InputLimit}
use Rattle.rose_shell.specs.Desk.{Terms, Settled, CutShort}
use Rattle.rose_shell.specs.Turns.{Turn, end_of, replies, lines_of}
use Rattle.rose_shell.specs.Moments.{IsMoment}
use Rattle.rose_shell.specs.Prefixes.{IsCounted, IsPrefixMoment}
use Rattle.rose_shell.specs.Running.{IsNotBegun, ready_store, state_in, is_commit, StandForState}
use Rattle.rose_shell.specs.OneByOne.{IsAnsweredAlone, ServedAlone}

-- ---- a line

-- What a store that is ready and has no group answers a line. It is ready then too, its state is sound, and the byte of its next
-- gate is there, where it was before.
pub record AnswersFrame (old : SpendableKept) (line reply : List ℕ) (new : SpendableKept) : Type 0 where
  pub was_ready : old.spent ≡ false
  pub was_alone : old.group ≡ None
  pub is_ready : new.spent ≡ false
  pub is_alone : new.group ≡ None
  pub sound : IsSound new.kept.state
  pub has_gate : old.kept.has_gate ≡ true → new.kept.has_gate ≡ true
  pub follows : law.Follows old.kept line reply new.kept

-- the line is that of a frame that comes next
pub record IsNextFrame (s : SpendableKept) (line : List ℕ) : Type 0 where
  pub frame : Frame
  pub is_line : IsLineOf frame line
  pub comes_next : ComesNext s.kept.state.changes frame

-- the files keep the same: this state, at this place
pub record KeepTheSame (s t : SpendableKept) : Type 0 where
  pub state : s.kept.state ≡ t.kept.state
  pub place : s.kept.place ≡ t.kept.place

-- What a follower goes by. A frame that comes next may write. The files rest at what is kept, or at its next gate once that is
-- there. Where the byte of this gate is missing, nothing is said of them in a crash, until a frame was applied.
abbrev pub FollowTerms : Terms SpendableKept
FollowTerms = record {
  answers = AnswersFrame;
  tells = λ s line reply. ⊥;
  writes = IsNextFrame;
  same = KeepTheSame;
  same_here = λ s. record { state = refl; place = refl };
  stands = λ s files. s.kept.has_gate ≡ true → RestsFrom meaning s.kept files;
  rests = λ s files. RestsAt s.kept files;
  rest_stands = λ s files rests has. inl rests;
}

-- One answer: the line was answered, or the disk failed meanwhile, or memory ran out, which leaves all as it was before.
abbrev pub AnsweredBy : {S : Type 0} → Terms S → View → View → S → S → List ℕ → Result (List ℕ) Status → Type 0
AnsweredBy terms old new start end line (Ok reply) = Settled terms old new start end
AnsweredBy terms old new start end line (Err Done) = ⊥
AnsweredBy terms old new start end line (Err Usage) = ⊥
AnsweredBy terms old new start end line (Err SourceFault) = ⊥
AnsweredBy terms old new start end line (Err SinkFault) = ⊥
AnsweredBy terms old new start end line (Err DiskFault) = CutShort terms old new start line
AnsweredBy terms old new start end line (Err (Damaged d)) = ⊥
AnsweredBy terms old new start end line (Err NoMemory) = Settled terms old new start start
AnsweredBy terms old new start end line (Err InputLimit) = ⊥

-- ---- the word

-- from a store, this turn has applied a frame: more changes are there then
abbrev pub is_applied : SpendableKept → Turn SpendableKept → Bool
is_applied = is_commit

-- A crash behind the first byte of the reply to the last of k frames that were applied: the files stand for what these led to, or
-- one frame more, and the byte of their next gate is there.
abbrev pub IsCrashOfFollower : SpendableKept → List (Turn SpendableKept) → List ℕ → Moment → Type 0
IsCrashOfFollower start turns given m = IsPrefixMoment state_in is_applied StandForState start turns given m

-- The turns as the laws of a primary and its standby see them: each line and what became of it, from what is kept first to what
-- is kept in the end.
pub record AreTakenAs (start : Kept) (turns : List (Turn SpendableKept)) (end : Kept) (taken : List law.Turn) : Type 0 where
  pub run : law.IsRun start taken end
  pub lines : map (λ turn. turn.line) taken ≡ lines_of turns
  pub replies_are : law.replies taken ≡ replies turns

-- What the files stand for at the call is what is followed from. Its state and that after each turn are sound. Each turn has
-- applied a frame and has a reply, or has left the state as it was. Each crash since the call leaves what one could leave at the
-- call, or is one of this session; from some moment on it is one. And so is each take since the call. But for a disk fault
-- all is at rest in the end, as it is kept after the last turn.
pub record HasBegunFollowing (old new : View) (budget : ℕ) (status : Status) : Type 0 where
  pub start : Kept
  pub rests : RestsAt start old.reads
  pub knows : KnowsGate start old.reads
  pub session : ServedAlone FollowTerms old new (ready_store start) budget status
  pub taken : List law.Turn
  pub are_taken : AreTakenAs start session.work.turns (end_of (ready_store start) session.work.turns).kept taken
  pub sound : IsSound start.state × All (λ turn. IsSound turn.after.kept.state) session.work.turns
  pub counted : IsCounted state_in is_applied (ready_store start) session.work.turns
  pub prefix : start.has_gate ≡ true
      → LeavesOnly old new (IsCrashOfFollower (ready_store start) session.work.turns old.given)
  pub rest : status ≢ DiskFault → AllRest (end_of (ready_store start) session.work.turns).kept new
  pub since : ℕ
  pub begun : old.moment ≤ since
  pub by_now : since ≤ new.moment
  pub before : (m : Moment) → new.left_since old.moment m → MayLeave old m
      ⊎ IsMoment FollowTerms.same FollowTerms.stands (ready_store start) old.reads session.work.turns old.given m
  pub settled : start.has_gate ≡ true → (m : Moment) → new.left_since since m
      → IsCrashOfFollower (ready_store start) session.work.turns old.given m
  pub first_asked : (a : Asked) → new.asked_since old.moment a → IsAnsweredAlone old budget session.work.turns a

-- what has come of following: nothing was begun, or this
abbrev pub HasFollowed : View → View → ℕ → Status → Type 0
HasFollowed old new budget status = IsNotBegun old new status ⊎ HasBegunFollowing old new budget status
