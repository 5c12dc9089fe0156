-- What comes of a line. No public clause cites this file.
use Rattle.std.specs.Prelude.{ℕ, ◌≤◌, ◌^◌, Option, MatchOption, List, All}
use Rattle.grid_base.specs.Drawing.{Drawing}
use Rattle.realm_audit.specs.Audits.{Audit, LineHolds, Accepts}
use Rattle.realm_audit.specs.declared.item.Item.{Item}
use Rattle.realm_audit.specs.declared.phase.Phase.{Phase}

-- the audit with these parts
abbrev pub audit_of : Drawing → ℕ → Phase → ℕ → ℕ → Audit
audit_of drawing greatest phase changes steps =
    record { drawing = drawing; greatest = greatest; phase = phase; changes = changes; steps = steps }

-- no id is above the greatest, and the counts are not above 2^63
pub record IsSoundAudit (drawing : Drawing) (greatest changes steps : ℕ) : Type 0 where
  pub ids_within : All (λ o. o.id ≤ greatest) drawing.originals
  pub few_changes : changes ≤ 2 ^ 63
  pub few_steps : steps ≤ 2 ^ 63

-- the item leads to the audit that was found; none was found where it doesn't hold
abbrev pub LeadsBy : Audit → Item → Option Audit → Type 0
LeadsBy old item found = MatchOption found ((new : Audit) → LineHolds old item new → ⊥) (LineHolds old item)

-- the same of a text
abbrev pub LeadsByText : Audit → List ℕ → Option Audit → Type 0
LeadsByText old text found = MatchOption found ((new : Audit) → Accepts old text new → ⊥) (Accepts old text)
