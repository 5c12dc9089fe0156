-- One answer of a desk, and what a crash may leave while it is made.
use Rattle.std.specs.Prelude.{◌≡◌, ◌⊎◌, ℕ, List, Option, Result, Ok, Err}
use Rattle.outside_world.specs.View.{View, AllStable}
use Rattle.realm_files.specs.Stands.{Files}
use Rattle.realm_files.specs.Writing.{LeavesFiles}
use Rattle.rose_shell.specs.declared.fault.Fault.{Fault}
use Rattle.rose_shell.specs.declared.fault.Fault.TheVariants.{Source, Sink, Disk, NoMemory}

-- the rule of a desk: from the first state, this line may get this reply and lead to the second state
abbrev pub Rule : Type 0 → Type 1
Rule S = S → List ℕ → List ℕ → S → Type 0

-- which files go with a state
abbrev pub FilesRule : Type 0 → Type 1
FilesRule S = S → Files → Type 0

-- what a desk goes by, S being its states
pub record Terms (S : Type 0) : Type 1 where
  pub answers : Rule S
  -- in this state, a line of a batch gets this reply, none being one that is too long
  pub tells : S → Option (List ℕ) → List ℕ → Type 0
  -- in this state, this line may write to the files
  pub writes : S → List ℕ → Type 0
  -- the files keep the same in both states, as they do in one
  pub same : S → S → Type 0
  pub same_here : (s : S) → same s s
  -- files that stand for this state
  pub stands : FilesRule S
  -- files as a desk in this state leaves them between two answers
  pub rests : FilesRule S
  pub rest_stands : (s : S) (files : Files) → rests s files → stands s files

-- A crash now leaves each file as it reads, and so they are as a desk in this state leaves them between two answers.
pub record AllRestBy {S : Type 0} (terms : Terms S) (v : View) (s : S) : Type 0 where
  pub stable : AllStable v
  pub rests : terms.rests s v.reads

-- Files while an answer leads from the first state to the second: they stand for the one or the other, and where the files
-- keep the same in both they are as they were.
abbrev pub StandsBetween : {S : Type 0} → (S → S → Type 0) → FilesRule S → S → S → Files → Files → Type 0
StandsBetween same stands start end were files = (stands start files ⊎ stands end files) × (same start end → files ≡ were)

-- An answer was made, and nothing was taken or given: meanwhile the files stood for the first state or the second, and now
-- they are at rest in the second.
pub record Settled {S : Type 0} (terms : Terms S) (old new : View) (start end : S) : Type 0 where
  pub leaves : LeavesFiles old new (StandsBetween terms.same terms.stands start end old.reads)
  pub still : terms.same start end → new.reads ≡ old.reads
  pub rest : AllRestBy terms new end

-- An answer was begun when the disk failed: the line may write, there is a reply to it, nothing was taken or given, and the
-- files have stood for the state before it or after it all the time, and still do.
pub record CutShort {S : Type 0} (terms : Terms S) (old new : View) (start : S) (line : List ℕ) : Type 0 where
  pub reply : List ℕ
  pub after : S
  pub answer : terms.answers start line reply after
  pub may_write : terms.writes start line
  pub leaves : LeavesFiles old new (StandsBetween terms.same terms.stands start after old.reads)
  pub still : terms.same start after → new.reads ≡ old.reads

-- One answer of a desk: the line was answered, or the disk failed meanwhile, or memory ran out, which leaves all as it was before.
abbrev pub Answered : {S : Type 0} → Terms S → View → View → S → S → List ℕ → Result (List ℕ) Fault → Type 0
Answered terms old new start end line (Ok reply) = Settled terms old new start end
Answered terms old new start end line (Err NoMemory) = Settled terms old new start start
Answered terms old new start end line (Err Disk) = CutShort terms old new start line
Answered terms old new start end line (Err Source) = ⊥
Answered terms old new start end line (Err Sink) = ⊥
