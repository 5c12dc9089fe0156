-- A certificate while it comes, and the reply to it before it is given. No public clause cites this file.
use Rattle.std.specs.Prelude.{◌≡◌, ◌≤◌, ◌<◌, ℕ, List, [], length, true, false, Option, Some, None, Result, Ok, Err}
use Rattle.outside_world.specs.View.{View}
use Rattle.realm_audit.specs.Verdicts.{Hearing, HasHeard}
use Rattle.realm_audit.specs.Verdicts.Hearing.{Heard, Failing, Exhausted}
use Rattle.rose_shell.specs.Lines.{all_lines}
use Rattle.rose_shell.specs.Auditing.{TellsVerdictOf, TookThenGave}
use Rattle.rose_shell.specs.declared.fault.Fault.{Fault}
use Rattle.rose_shell.specs.declared.certificate.Certificate.{Certificate}

-- a line has failed
abbrev pub IsFailing : Hearing → Type 0
IsFailing (Heard lines audit) = ⊥
IsFailing (Failing line) = Unit {0}
IsFailing Exhausted = ⊥

-- these lines have come, and this part of the next one, which is kept as long as no line has failed
pub record HasCome (c : Certificate) (texts : List (List ℕ)) (part : List ℕ) : Type 0 where
  pub heard : HasHeard c.auditor texts
  pub kept : c.holds ≡ true → c.part.items ≡ part
  pub failed : c.holds ≡ false → IsFailing c.auditor

-- how the reading of the input comes out, where nothing is given yet: with the reply to all of it, with more than the budget, or at
-- a fault
abbrev pub ReadingEndsBy : View → List ℕ → ℕ → Result (Option (List ℕ)) Fault → Type 0
ReadingEndsBy new bytes budget (Ok (Some reply)) =
    (length bytes ≤ budget) × (new.left ≡ []) × TellsVerdictOf (all_lines bytes) reply
ReadingEndsBy new bytes budget (Ok None) = budget < length bytes
ReadingEndsBy new bytes budget (Err fault) = length bytes ≤ budget

-- what was taken for an audit whose reply isn't given yet
abbrev pub HasReadInput : View → View → ℕ → Result (Option (List ℕ)) Fault → Type 0
HasReadInput old new budget result =
    (bytes : List ℕ) × TookThenGave old new bytes [] [] × ReadingEndsBy new bytes budget result
