-- A session: lines are answered one by one, those of a batch together, until the input ends or a fault comes.
use Rattle.std.specs.Prelude.{◌≡◌, ◌≢◌, ◌⊎◌, ◌<◌, ◌≤◌, ℕ, List, [], ◌∷◌, ◌++◌, length}
use Rattle.outside_world.specs.View.{View, Asked}
use Rattle.outside_world.specs.Since.{OnlyAdds}
use Rattle.realm_files.specs.Writing.{InEachImage}
use Rattle.rose_shell.specs.declared.status.Status.{Status}
use Rattle.rose_shell.specs.declared.status.Status.TheVariants.{Done, Usage, SourceFault, SinkFault}
use Rattle.rose_shell.specs.declared.status.Status.TheVariants.{DiskFault, Damaged, NoMemory, InputLimit}
use Rattle.rose_shell.specs.Lines.{whole_lines, all_lines}
use Rattle.rose_shell.specs.Batches.{AreHeld}
use Rattle.rose_shell.specs.Desk.{Terms, StandsBetween}
use Rattle.rose_shell.specs.Turns.{Turn, IsRun, AreComplete, end_of, files_after, replies, lines_of}
use Rattle.rose_shell.specs.Moments.{FollowsTurns}

-- every reply but the last was given whole, and of the last one all but these bytes
pub record IsGivenInPart {S : Type 0} (turns : List (Turn S)) (unsent : List ℕ) : Type 0 where
  pub before : List (Turn S)
  pub last : Turn S
  pub sent : List ℕ
  pub in_order : turns ≡ before ++ last ∷ []
  pub split : last.reply ≡ sent ++ unsent

-- Every reply but the last was given whole, and of the last one nothing: the disk failed while its line was
-- answered, which may write to the files. Whatever a crash now leaves of them stands for the state before
-- this line or after it.
pub record IsCutOff {S : Type 0} (terms : Terms S) (old new : View) (start : S) (turns : List (Turn S))
    (unsent : List ℕ) : Type 0 where
  pub before : List (Turn S)
  pub last : Turn S
  pub in_order : turns ≡ before ++ last ∷ []
  pub none_given : unsent ≡ last.reply
  pub given_before : new.given ≡ old.given ++ replies before
  pub may_write : terms.writes (end_of start before) last.line
  pub now : InEachImage new (StandsBetween terms.same terms.stands (end_of start before) last.after (files_after old.reads before))

-- the turns are those of the whole lines among these bytes, but for a batch that lacks lines still
pub record AreTurnsOf {S : Type 0} (turns : List (Turn S)) (bytes : List ℕ) : Type 0 where
  pub held : List (List ℕ)
  pub are_held : AreHeld held
  pub lines : lines_of turns ++ held ≡ whole_lines bytes
  pub full : AreComplete ⊥ turns

-- a take began when the turns of the bytes taken had been made, and nothing else; these are within the budget
pub record IsAnswered {S : Type 0} (old : View) (budget : ℕ) (turns : List (Turn S)) (a : Asked)
    : Type 0 where
  pub bytes : List ℕ
  pub done : List (Turn S)
  pub others : List (Turn S)
  pub some : turns ≡ done ++ others
  pub taken : a.taken ≡ old.taken ++ bytes
  pub in_budget : length bytes ≤ budget
  pub answered : AreTurnsOf done bytes
  pub given : a.given ≡ old.given ++ replies done

-- ---- a run of the loop

-- what came of it: the bytes taken, the turns, the lines that weren't answered, and the end of the replies that wasn't given
pub record Work (S : Type 0) : Type 0 where
  pub bytes : List ℕ
  pub turns : List (Turn S)
  pub unread : List (List ℕ)
  pub unsent : List ℕ

-- the clock went on, these bytes were taken, and the first lines of theirs were answered
pub record ReadsLines {S : Type 0} (old new : View) (w : Work S) (budget : ℕ) (status : Status) : Type 0 where
  pub later : old.moment ≤ new.moment
  pub left : old.left ≡ w.bytes ++ new.left
  pub taken : new.taken ≡ old.taken ++ w.bytes
  pub of_lines : lines_of w.turns ++ w.unread ≡ all_lines w.bytes
  -- a batch has fewer lines than it asks for only where the input has ended with them
  pub full : AreComplete ((new.left ≡ []) × (w.unread ≡ [])) w.turns
  -- an unfinished last line only at the end of the input
  pub whole : (new.left ≡ []) ⊎ ((others : List (List ℕ)) × (lines_of w.turns ++ others ≡ whole_lines w.bytes))
  pub within : status ≢ InputLimit → length w.bytes ≤ budget

-- the turns were made, and but for want of memory and a disk fault lead to the state at the end
pub record LeadsTo {S : Type 0} (terms : Terms S) (start end : S) (w : Work S) (status : Status) : Type 0 where
  pub is_run : IsRun terms start w.turns
  pub ends : status ≢ NoMemory → status ≢ DiskFault → end ≡ end_of start w.turns

-- what each status means
abbrev pub EndsBy : {S : Type 0} → Terms S → View → View → S → Work S → ℕ → Status → Type 0
EndsBy terms old new start w budget Done = (new.left ≡ []) × (w.unread ≡ []) × (w.unsent ≡ [])
EndsBy terms old new start w budget Usage = ⊥
EndsBy terms old new start w budget SourceFault = AreTurnsOf w.turns w.bytes × (w.unsent ≡ [])
EndsBy terms old new start w budget SinkFault = IsGivenInPart w.turns w.unsent
EndsBy terms old new start w budget DiskFault = IsCutOff terms old new start w.turns w.unsent
EndsBy terms old new start w budget (Damaged d) = ⊥
EndsBy terms old new start w budget NoMemory = w.unsent ≡ []
EndsBy terms old new start w budget InputLimit =
    (first last : List ℕ) × (w.bytes ≡ first ++ last) × (length first ≡ budget) × (0 < length last)
    × AreTurnsOf w.turns first × (w.unsent ≡ [])

-- the whole run: its input and output, its states and takes, what becomes of the files, and its end
pub record Served {S : Type 0} (terms : Terms S) (old new : View) (start end : S)
    (budget : ℕ) (status : Status) : Type 0 where
  pub work : Work S
  pub input : ReadsLines old new work budget status
  pub given : new.given ++ work.unsent ≡ old.given ++ replies work.turns
  pub state : LeadsTo terms start end work status
  pub asked : OnlyAdds old.moment old.asked_since new.asked_since (IsAnswered old budget work.turns)
  pub files : FollowsTurns terms (status ≢ DiskFault) old new start work.turns
  pub ended : EndsBy terms old new start work budget status
