-- What a part of the loop has done with some lines. No public clause cites this file.
use Rattle.std.specs.Prelude.{◌≡◌, ◌≢◌, ◌⊎◌, ◌<◌, ◌≤◌, ℕ, ◌+◌, List, [], ◌∷◌, ◌++◌, Option, Bool, true, false, length, map}
use Rattle.std.specs.Prelude.{Result, Ok, Err}
use Rattle.outside_world.specs.View.{View}
use Rattle.outside_world.specs.Since.{TakesNone}
use Rattle.rose_shell.specs.declared.fault.Fault.{Fault}
use Rattle.rose_shell.specs.declared.fault.Fault.TheVariants as faults
use Rattle.rose_shell.specs.declared.waiting.Waiting.{Waiting}
use Rattle.rose_shell.specs.declared.waiting.LineAsks.{LineAsks}
use Rattle.rose_shell.specs.declared.waiting.LineAsks.TheVariants as asks
use Rattle.rose_shell.specs.Lines.{longest_line}
use Rattle.realm_store.specs.declared.error.CommitError.{CommitError}
use Rattle.realm_store.specs.declared.error.CommitError.TheVariants as commits
use Rattle.realm_store.specs.declared.error.CheckpointError.{CheckpointError}
use Rattle.realm_store.specs.declared.error.CheckpointError.TheVariants as checkpoints
use Rattle.realm_store.specs.declared.error.BeginError.{BeginError}
use Rattle.realm_store.specs.declared.error.BeginError.TheVariants as begins
use Rattle.realm_store.specs.declared.error.EndError.{EndError}
use Rattle.realm_store.specs.declared.error.EndError.TheVariants as ends
use Rattle.rose_query.specs.Replies.{no_reply}
use Rattle.rose_shell.specs.Replies.{no_generations_reply, in_group_reply, no_group_reply}
use Rattle.query_batch.specs.Joined.{AreJoined}
use Rattle.rose_shell.specs.Giving.{GaveSome}
use Rattle.rose_shell.specs.Batches.{OpensBatch, OpensNone, heard}
use Rattle.rose_shell.specs.Desk.{Terms}
use Rattle.rose_shell.specs.Turns.{Turn, IsRun, AreComplete, end_of, replies, lines_of}
use Rattle.rose_shell.specs.Moments.{FollowsTurns}
use Rattle.rose_shell.specs.Session.{IsGivenInPart, IsCutOff}

-- what a line asks for of which this was kept
abbrev pub Asks : List ℕ → LineAsks → Type 0
Asks kept asks.Refusal = longest_line < length kept
Asks kept (asks.Batch size) = (length kept ≤ longest_line) × (0 < size) × OpensBatch kept size
Asks kept asks.Answer = (length kept ≤ longest_line) × OpensNone kept

-- this much is kept of these lines that wait for an answer
abbrev pub IsWaiting : Waiting → List (List ℕ) → Type 0
IsWaiting waiting [] = (waiting.missing ≡ 0) × (waiting.lines.items ≡ [])
IsWaiting waiting (line ∷ batch) =
    (0 < waiting.missing) × OpensBatch line (waiting.missing + length batch) × (waiting.lines.items ≡ map heard batch)

-- these lines were answered, and their replies given whole, but for the lines that wait then; in the end a batch may have
-- fewer lines than it asks for where no line is left
pub record Went {S : Type 0} (terms : Terms S) (none_left : Type 0) (old new : View) (start end : S)
    (lines : List (List ℕ)) (waiting : Waiting) : Type 0 where
  pub turns : List (Turn S)
  pub held : List (List ℕ)
  pub is_run : IsRun terms start turns
  pub full : AreComplete none_left turns
  pub waits : IsWaiting waiting held
  pub of_lines : lines_of turns ++ held ≡ lines
  pub ends : end ≡ end_of start turns
  pub given : new.given ≡ old.given ++ replies turns
  pub takes : TakesNone old new
  pub files : FollowsTurns terms Unit old new start turns

-- how such a part stops: the sink fails within a reply, the disk within an answer, or memory runs out before the next line
abbrev pub StopsBy : {S : Type 0} → Terms S → View → View → S → S → List (Turn S) → List ℕ → Fault → Type 0
StopsBy terms old new start end turns unsent faults.Source = ⊥
StopsBy terms old new start end turns unsent faults.Sink = (end ≡ end_of start turns) × IsGivenInPart turns unsent
StopsBy terms old new start end turns unsent faults.Disk = IsCutOff terms old new start turns unsent
StopsBy terms old new start end turns unsent faults.NoMemory = unsent ≡ []

-- some of these lines were answered, until there was this fault
pub record Stopped {S : Type 0} (terms : Terms S) (none_left : Type 0) (old new : View) (start end : S)
    (lines : List (List ℕ)) (fault : Fault) : Type 0 where
  pub turns : List (Turn S)
  pub unread : List (List ℕ)
  pub unsent : List ℕ
  pub is_run : IsRun terms start turns
  pub full : AreComplete (none_left × (unread ≡ [])) turns
  pub of_lines : lines_of turns ++ unread ≡ lines
  pub given : new.given ++ unsent ≡ old.given ++ replies turns
  pub takes : TakesNone old new
  pub files : FollowsTurns terms (fault ≢ faults.Disk) old new start turns
  pub ended : StopsBy terms old new start end turns unsent fault

-- these lines of a batch were answered in this state, and the reply was given but for this end
pub record ToldBatch {S : Type 0} (terms : Terms S) (old new : View) (s : S) (lines : List (Option (List ℕ)))
    (unsent : List ℕ) : Type 0 where
  pub reply : List ℕ
  pub joined : AreJoined (terms.tells s) lines reply
  pub gave : GaveSome old new reply unsent

-- or they weren't, as the sink failed within their reply, or memory ran out
abbrev pub IsUntold : {S : Type 0} → Terms S → View → View → S → List (Option (List ℕ)) → Fault → Type 0
IsUntold terms old new s lines faults.Source = ⊥
IsUntold terms old new s lines faults.Sink = (unsent : List ℕ) × ToldBatch terms old new s lines unsent
IsUntold terms old new s lines faults.Disk = ⊥
IsUntold terms old new s lines faults.NoMemory = Unit {0}

-- what is said of a change that the store has made, or not: its reply, or the word of its refusal
abbrev pub ToldOfChange : Result (List ℕ) CommitError → Result (List ℕ) Fault → Type 0
ToldOfChange (Ok reply) told = told ≡ Ok reply
ToldOfChange (Err (commits.Refused refusal)) told = (told ≡ Ok (no_reply refusal)) ⊎ (told ≡ Err faults.NoMemory)
ToldOfChange (Err commits.Disk) told = told ≡ Err faults.Disk
ToldOfChange (Err commits.NoMemory) told = told ≡ Err faults.NoMemory

-- and what is said of a checkpoint, with this reply
abbrev pub ToldOfCheckpoint : List ℕ → Result Unit CheckpointError → Result (List ℕ) Fault → Type 0
ToldOfCheckpoint reply (Ok done) told = told ≡ Ok reply
ToldOfCheckpoint reply (Err checkpoints.Generations) told = (told ≡ Ok no_generations_reply) ⊎ (told ≡ Err faults.NoMemory)
ToldOfCheckpoint reply (Err checkpoints.Disk) told = told ≡ Err faults.Disk
ToldOfCheckpoint reply (Err checkpoints.NoMemory) told = told ≡ Err faults.NoMemory

-- and of a group that is begun, ended or given up, with this reply
abbrev pub ToldOfBegin : List ℕ → Result Unit BeginError → Result (List ℕ) Fault → Type 0
ToldOfBegin reply (Ok done) told = told ≡ Ok reply
ToldOfBegin reply (Err begins.InGroup) told = (told ≡ Ok in_group_reply) ⊎ (told ≡ Err faults.NoMemory)
ToldOfBegin reply (Err begins.NoMemory) told = told ≡ Err faults.NoMemory

abbrev pub ToldOfEnd : List ℕ → Result ℕ EndError → Result (List ℕ) Fault → Type 0
ToldOfEnd reply (Ok count) told = told ≡ Ok reply
ToldOfEnd reply (Err ends.NoGroup) told = (told ≡ Ok no_group_reply) ⊎ (told ≡ Err faults.NoMemory)
ToldOfEnd reply (Err ends.Disk) told = told ≡ Err faults.Disk
ToldOfEnd reply (Err ends.NoMemory) told = told ≡ Err faults.NoMemory

abbrev pub ToldOfAbandon : List ℕ → Bool → Result (List ℕ) Fault → Type 0
ToldOfAbandon reply true told = told ≡ Ok reply
ToldOfAbandon reply false told = (told ≡ Ok no_group_reply) ⊎ (told ≡ Err faults.NoMemory)
