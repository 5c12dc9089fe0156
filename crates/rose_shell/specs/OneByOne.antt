-- A session whose lines are answered one by one, whatever their length, until the input ends or a fault comes.
use Rattle.std.specs.Prelude.{◌≡◌, ◌≢◌, ◌⊎◌, ◌<◌, ◌≤◌, ℕ, List, [], ◌∷◌, ◌++◌, length}
use Rattle.outside_world.specs.View.{View, Asked}
use Rattle.outside_world.specs.Since.{OnlyAdds}
use Rattle.rose_shell.specs.declared.status.Status.{Status}
use Rattle.rose_shell.specs.declared.status.Status.TheVariants.{Done, Usage, SourceFault, SinkFault}
use Rattle.rose_shell.specs.declared.status.Status.TheVariants.{DiskFault, Damaged, NoMemory, InputLimit}
use Rattle.rose_shell.specs.Lines.{whole_lines, all_lines}
use Rattle.rose_shell.specs.Desk.{Rule, Terms}
use Rattle.rose_shell.specs.Turns.{Turn, replies, lines_of}
use Rattle.rose_shell.specs.Moments.{FollowsTurns}
use Rattle.rose_shell.specs.Session.{IsGivenInPart, IsCutOff, Work}

-- the turn is that of one line, and answers it
pub record IsAlone {S : Type 0} (answers : Rule S) (start : S) (turn : Turn S) : Type 0 where
  pub alone : turn.batch ≡ []
  pub answer : answers start turn.line turn.reply turn.after

-- the turns are made one after another, each from the state that the one before has left
abbrev pub IsRunAlone : {S : Type 0} → Rule S → S → List (Turn S) → Type 0
IsRunAlone answers start [] = Unit {0}
IsRunAlone answers start (turn ∷ turns) = IsAlone answers start turn × IsRunAlone answers turn.after turns

-- the turns are those of all whole lines among these bytes
abbrev pub AreAllOf : {S : Type 0} → List (Turn S) → List ℕ → Type 0
AreAllOf turns bytes = lines_of turns ≡ whole_lines bytes

-- a take began when the turns of the bytes taken had been made, and nothing else; these are within the budget
pub record IsAnsweredAlone {S : Type 0} (old : View) (budget : ℕ) (turns : List (Turn S)) (a : Asked) : Type 0 where
  pub bytes : List ℕ
  pub done : List (Turn S)
  pub others : List (Turn S)
  pub some : turns ≡ done ++ others
  pub taken : a.taken ≡ old.taken ++ bytes
  pub in_budget : length bytes ≤ budget
  pub answered : AreAllOf done bytes
  pub given : a.given ≡ old.given ++ replies done

-- the clock went on, these bytes were taken, and the first lines of theirs were answered
pub record ReadsAlone {S : Type 0} (old new : View) (w : Work S) (budget : ℕ) (status : Status) : Type 0 where
  pub later : old.moment ≤ new.moment
  pub left : old.left ≡ w.bytes ++ new.left
  pub taken : new.taken ≡ old.taken ++ w.bytes
  pub of_lines : lines_of w.turns ++ w.unread ≡ all_lines w.bytes
  -- an unfinished last line only at the end of the input
  pub whole : (new.left ≡ []) ⊎ ((others : List (List ℕ)) × (lines_of w.turns ++ others ≡ whole_lines w.bytes))
  pub within : status ≢ InputLimit → length w.bytes ≤ budget

-- what each status means
abbrev pub EndsAloneBy : {S : Type 0} → Terms S → View → View → S → Work S → ℕ → Status → Type 0
EndsAloneBy terms old new start w budget Done = (new.left ≡ []) × (w.unread ≡ []) × (w.unsent ≡ [])
EndsAloneBy terms old new start w budget Usage = ⊥
EndsAloneBy terms old new start w budget SourceFault = AreAllOf w.turns w.bytes × (w.unsent ≡ [])
EndsAloneBy terms old new start w budget SinkFault = IsGivenInPart w.turns w.unsent
EndsAloneBy terms old new start w budget DiskFault = IsCutOff terms old new start w.turns w.unsent
EndsAloneBy terms old new start w budget (Damaged d) = ⊥
EndsAloneBy terms old new start w budget NoMemory = w.unsent ≡ []
EndsAloneBy terms old new start w budget InputLimit =
    (first last : List ℕ) × (w.bytes ≡ first ++ last) × (length first ≡ budget) × (0 < length last)
    × AreAllOf w.turns first × (w.unsent ≡ [])

-- the whole run: its input and output, its states and takes, what becomes of the files, and its end
pub record ServedAlone {S : Type 0} (terms : Terms S) (old new : View) (start : S) (budget : ℕ) (status : Status)
    : Type 0 where
  pub work : Work S
  pub input : ReadsAlone old new work budget status
  pub given : new.given ++ work.unsent ≡ old.given ++ replies work.turns
  pub is_run : IsRunAlone terms.answers start work.turns
  pub asked : OnlyAdds old.moment old.asked_since new.asked_since (IsAnsweredAlone old budget work.turns)
  pub files : FollowsTurns terms (status ≢ DiskFault) old new start work.turns
  pub ended : EndsAloneBy terms old new start work budget status
