-- The verdict on a text: sound where no line fails and the last is `end`.
use Rattle.std.specs.Prelude.{◌≡◌, ◌≢◌, ◌⊎◌, ℕ, ◌^◌, min, Bool, IsTrue, IsFalse, List, [], ◌∷◌, ◌++◌, length}
use Rattle.realm_audit.specs.Audits.{Audit, first_audit, next_count, Accepts}
use Rattle.realm_audit.specs.declared.phase.Phase.TheVariants.{Ended}
use Rattle.realm_audit.specs.declared.verdict.Verdict.{Verdict}
use Rattle.realm_audit.specs.declared.verdict.Verdict.TheVariants.{Sound, Unsound}

-- the texts of lines hold one after the other, and lead from the old audit to the new one
abbrev pub AllAccepted : Audit → List (List ℕ) → Audit → Type 0
AllAccepted old [] new = old ≡ new
AllAccepted old (text ∷ texts) new = (between : Audit) × Accepts old text between × AllAccepted between texts new

-- how many lines there are, counted up to 2^63
abbrev pub line_count : List (List ℕ) → ℕ
line_count texts = min (length texts) (2 ^ 63)

-- the line behind the texts of `before` is the first that fails
pub record FailsBehind (before : List (List ℕ)) (text : List ℕ) : Type 0 where
  pub reached : Audit
  pub accepted : AllAccepted first_audit before reached
  pub fails : (new : Audit) → Accepts reached text new → ⊥

-- the first line that fails has this number
abbrev pub FailsAt : List (List ℕ) → ℕ → Type 0
FailsAt texts n =
    (before : List (List ℕ)) × (text : List ℕ) × (after : List (List ℕ)) × (texts ≡ before ++ text ∷ after)
    × FailsBehind before text × (n ≡ next_count (line_count before))

-- no line fails, and they lead to this audit
abbrev pub LeadsTo : List (List ℕ) → Audit → Type 0
LeadsTo texts audit = AllAccepted first_audit texts audit

-- the verdict is that on these texts
abbrev pub IsVerdict : List (List ℕ) → Verdict → Type 0
IsVerdict texts (Sound changes steps) =
    (audit : Audit) × LeadsTo texts audit × (audit.phase ≡ Ended)
    × (changes ≡ audit.changes) × (steps ≡ audit.steps)
IsVerdict texts (Unsound n) =
    ((audit : Audit) × LeadsTo texts audit × (audit.phase ≢ Ended) × (n ≡ next_count (line_count texts)))
    ⊎ FailsAt texts n

-- how far an auditor has come: so many lines were heard and lead to an audit, or this line failed, or memory ran out
pub data Hearing : Type 0 where
  Heard : (lines : ℕ) (audit : Audit) → Hearing
  Failing : (line : ℕ) → Hearing
  Exhausted : Hearing

-- it has heard these texts
abbrev pub HasHeard : Hearing → List (List ℕ) → Type 0
HasHeard (Heard n audit) texts = (n ≡ line_count texts) × LeadsTo texts audit
HasHeard (Failing n) texts = FailsAt texts n
HasHeard Exhausted texts = ⊥

-- it hears one more line, and says whether it holds
abbrev pub Hears : Hearing → List ℕ → Bool → Hearing → Type 0
Hears (Heard n audit) text held (Heard m next) = IsTrue held × (m ≡ next_count n) × Accepts audit text next
Hears (Heard n audit) text held (Failing m) =
    IsFalse held × (m ≡ next_count n) × ((next : Audit) → Accepts audit text next → ⊥)
Hears (Heard n audit) text held Exhausted = ⊥
Hears (Failing n) text held (Heard m next) = ⊥
Hears (Failing n) text held (Failing m) = IsFalse held × (m ≡ n)
Hears (Failing n) text held Exhausted = ⊥
Hears Exhausted text held (Heard m next) = ⊥
Hears Exhausted text held (Failing m) = ⊥
Hears Exhausted text held Exhausted = IsFalse held

-- no line holds any more: one has failed, or memory ran out
abbrev pub IsOver : Hearing → Type 0
IsOver (Heard n audit) = ⊥
IsOver (Failing n) = Unit {0}
IsOver Exhausted = Unit {0}

-- the verdict on what was heard
abbrev pub Judges : Hearing → Verdict → Type 0
Judges (Heard n audit) (Sound changes steps) =
    (audit.phase ≡ Ended) × (changes ≡ audit.changes) × (steps ≡ audit.steps)
Judges (Heard n audit) (Unsound line) = (audit.phase ≢ Ended) × (line ≡ next_count n)
Judges (Failing n) (Sound changes steps) = ⊥
Judges (Failing n) (Unsound line) = line ≡ n
Judges Exhausted verdict = ⊥
