-- Turns of a session: a line alone, or a batch of lines, with the reply, and the state and the files after it.
use Rattle.std.specs.Prelude.{◌≡◌, ◌⊎◌, ◌≤◌, ℕ, List, [], ◌∷◌, ◌++◌, Option, length, nat_lt}
use Rattle.std.specs.Prelude.{MatchBool}
use Rattle.realm_files.specs.Stands.{Files}
use Rattle.query_batch.specs.Joined.{AreJoined}
use Rattle.query_batch.specs.Replies.{too_long_reply}
use Rattle.rose_shell.specs.Lines.{longest_line}
use Rattle.rose_shell.specs.Batches.{OpensBatch, OpensNone, heard}
use Rattle.rose_shell.specs.Desk.{Rule, Terms}

-- a line, the lines of the batch that it begins, the reply to all of them, and the state and both files after it
pub record Turn (S : Type 0) : Type 0 where
  pub line : List ℕ
  pub batch : List (List ℕ)
  pub reply : List ℕ
  pub after : S
  pub files : Files

-- a line of more bytes gets this reply and changes nothing, any other is answered
abbrev pub Treats : {S : Type 0} → Rule S → S → List ℕ → List ℕ → S → Type 0
Treats answers start line reply end =
    MatchBool (nat_lt longest_line (length line)) ((reply ≡ too_long_reply) × (end ≡ start))
    (answers start line reply end)

-- the line begins no batch, and is treated alone
pub record IsSingle {S : Type 0} (answers : Rule S) (start : S) (turn : Turn S) : Type 0 where
  pub opens_none : OpensNone turn.line
  pub alone : turn.batch ≡ []
  pub treats : Treats answers start turn.line turn.reply turn.after

-- The line begins a batch of these lines. The reply is that of each of them in this state, one after another, and the state
-- stays.
pub record IsBatch {S : Type 0} (tells : S → Option (List ℕ) → List ℕ → Type 0) (start : S) (turn : Turn S) : Type 0 where
  pub size : ℕ
  pub opens : OpensBatch turn.line size
  pub within : length turn.batch ≤ size
  pub joined : AreJoined (λ line reply. tells start (heard line) reply) turn.batch turn.reply
  pub stays : turn.after ≡ start

-- the turns are made one after another, each from the state that the one before has left
abbrev pub IsRun : {S : Type 0} → Terms S → S → List (Turn S) → Type 0
IsRun terms start [] = Unit {0}
IsRun terms start (turn ∷ turns) =
    (IsSingle terms.answers start turn ⊎ IsBatch terms.tells start turn) × IsRun terms turn.after turns

-- the turn begins no batch, or one with as many lines as it asks for
abbrev pub IsComplete : {S : Type 0} → Turn S → Type 0
IsComplete turn = OpensNone turn.line ⊎ OpensBatch turn.line (length turn.batch)

-- the turns are complete, but that the last one needn't be where no line is left
abbrev pub AreComplete : {S : Type 0} → Type 0 → List (Turn S) → Type 0
AreComplete none_left [] = Unit {0}
AreComplete none_left (turn ∷ turns) =
    (IsComplete turn ⊎ ((turns ≡ []) × none_left)) × AreComplete none_left turns

-- the state after the turns
abbrev pub end_of : {S : Type 0} → S → List (Turn S) → S
end_of start [] = start
end_of start (turn ∷ turns) = end_of turn.after turns

-- both files after them
abbrev pub files_after : {S : Type 0} → Files → List (Turn S) → Files
files_after files [] = files
files_after files (turn ∷ turns) = files_after turn.files turns

-- their replies, one after another
abbrev pub replies : {S : Type 0} → List (Turn S) → List ℕ
replies [] = []
replies (turn ∷ turns) = turn.reply ++ replies turns

-- their lines
abbrev pub lines_of : {S : Type 0} → List (Turn S) → List (List ℕ)
lines_of [] = []
lines_of (turn ∷ turns) = turn.line ∷ (turn.batch ++ lines_of turns)
