-- What is promised of the word `audit`: the input is taken to its end, and then one line is given, the verdict on its lines.
use Rattle.std.specs.Prelude.{◌≡◌, ◌≢◌, ◌≤◌, ◌<◌, ℕ, List, [], ◌++◌, length, codes}
use Rattle.std.specs.Fmt.{decimal}
use Rattle.outside_world.specs.View.{View}
use Rattle.outside_world.specs.Calls.{SameFiles}
use Rattle.outside_world.specs.Since.{OnlyAdds, LeavesOnly}
use Rattle.realm_audit.specs.Verdicts.{IsVerdict}
use Rattle.realm_audit.specs.declared.verdict.Verdict.{Verdict}
use Rattle.realm_audit.specs.declared.verdict.Verdict.TheVariants.{Sound, Unsound}
use Rattle.rose_shell.specs.Giving.{IsGiving}
use Rattle.rose_shell.specs.Lines.{all_lines}
use Rattle.rose_shell.specs.declared.status.Status.{Status}
use Rattle.rose_shell.specs.declared.status.Status.TheVariants.{Done, Usage, SourceFault, SinkFault}
use Rattle.rose_shell.specs.declared.status.Status.TheVariants.{DiskFault, Damaged, NoMemory, InputLimit}

-- the line of a verdict
abbrev pub verdict_text : Verdict → List ℕ
verdict_text (Sound changes steps) = codes "sound " ++ (decimal changes ++ (codes " " ++ (decimal steps ++ codes "\n")))
verdict_text (Unsound line) = codes "unsound " ++ (decimal line ++ codes "\n")

-- the reply is the line of the verdict on these lines
abbrev pub TellsVerdictOf : List (List ℕ) → List ℕ → Type 0
TellsVerdictOf lines reply = (verdict : Verdict) × IsVerdict lines verdict × (reply ≡ verdict_text verdict)

-- These bytes were taken from the input, and then all but an end of the reply was given: no take began behind the first give.
-- Both files stay, and each crash since leaves what it could at the call.
pub record TookThenGave (old new : View) (bytes reply unsent : List ℕ) : Type 0 where
  pub later : old.moment ≤ new.moment
  pub left : old.left ≡ bytes ++ new.left
  pub taken : new.taken ≡ old.taken ++ bytes
  pub sent : List ℕ
  pub split : reply ≡ sent ++ unsent
  pub given : new.given ≡ old.given ++ sent
  pub asked : OnlyAdds old.moment old.asked_since new.asked_since (λ a. a.given ≡ old.given)
  pub files : SameFiles old new
  pub crash : LeavesOnly old new (IsGiving old reply)

-- what each status means
abbrev pub AuditEndsBy : View → List ℕ → List ℕ → List ℕ → ℕ → Status → Type 0
AuditEndsBy new bytes reply unsent budget Done =
    (new.left ≡ []) × TellsVerdictOf (all_lines bytes) reply × (unsent ≡ [])
AuditEndsBy new bytes reply unsent budget Usage = ⊥
AuditEndsBy new bytes reply unsent budget SourceFault = reply ≡ []
AuditEndsBy new bytes reply unsent budget SinkFault =
    (new.left ≡ []) × TellsVerdictOf (all_lines bytes) reply × (unsent ≢ [])
AuditEndsBy new bytes reply unsent budget DiskFault = ⊥
AuditEndsBy new bytes reply unsent budget (Damaged d) = ⊥
AuditEndsBy new bytes reply unsent budget NoMemory = reply ≡ []
AuditEndsBy new bytes reply unsent budget InputLimit = (reply ≡ []) × (budget < length bytes)

-- what an audit has done: only at its end, with the input taken to its own, is there a reply
pub record HasAudited (old new : View) (budget : ℕ) (status : Status) : Type 0 where
  pub bytes : List ℕ
  pub reply : List ℕ
  pub unsent : List ℕ
  pub calls : TookThenGave old new bytes reply unsent
  pub within : status ≢ InputLimit → length bytes ≤ budget
  pub ended : AuditEndsBy new bytes reply unsent budget status
