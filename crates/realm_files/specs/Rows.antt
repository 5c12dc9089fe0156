-- Records in a file, each behind an open gate, up to the first closed one.
use Rattle.std.specs.Prelude.{◌≡◌, ◌+◌, ℕ, List, [], ◌∷◌, length}
use Rattle.record_codec.specs.declared.record.Record.{Record}
use Rattle.record_codec.specs.Fitting.{IsRecord}
use Rattle.record_codec.specs.Spelling.{record_text}
use Rattle.realm_journal.specs.Gates.{open_gate, IsWrittenAt, IsClosedAt}
use Rattle.realm_files.specs.Meaning.{Meaning}

-- from the gate at a place on, these records lead from the first state to the second, up to the gate at `next`
abbrev pub AreLed : {S : Type 0} → Meaning S → S → List Record → ℕ → List ℕ → S → ℕ → Type 0
AreLed m start [] at file end next = (end ≡ start) × (next ≡ at)
AreLed m start (r ∷ rs) at file end next =
    (mid : _) × IsRecord r × m.leads start r mid × IsWrittenAt at (open_gate ∷ record_text r) file
    × AreLed m mid rs (at + 1 + length (record_text r)) file end next

-- and this gate is closed
abbrev pub AreRecords : {S : Type 0} → Meaning S → S → List Record → ℕ → List ℕ → S → ℕ → Type 0
AreRecords m start rs at file end next = AreLed m start rs at file end next × IsClosedAt next file

-- no record behind the gate at this place leads on from the state
abbrev pub LacksRecord : {S : Type 0} → Meaning S → S → ℕ → List ℕ → Type 0
LacksRecord m state at file = (r : Record) → (after : _) → IsRecord r → m.leads state r after
    → IsWrittenAt at (open_gate ∷ record_text r) file → ⊥

-- ---- records, wherever they stand

-- each of these records leads on, from the first state to the second
abbrev pub LeadOn : {S : Type 0} → Meaning S → S → List Record → S → Type 0
LeadOn m start [] end = end ≡ start
LeadOn m start (r ∷ rs) end = (mid : _) × m.leads start r mid × LeadOn m mid rs end

-- the record leads from the state to none
abbrev pub LeadsNowhere : {S : Type 0} → Meaning S → S → Record → Type 0
LeadsNowhere m state r = (after : _) → m.leads state r after → ⊥
