-- Records whose changes are made again one after another, wherever they stand. No public clause of this crate
-- cites this file.
use Rattle.std.specs.Prelude.{◌≡◌, ◌+◌, ℕ, Bool, true, false, List, Option, Some, None}
use Rattle.line_grammar.specs.declared.command.Change.{Change}
use Rattle.line_grammar.specs.Spelling.{change_text}
use Rattle.line_grammar.specs.Spellable.{IsSpellableChange}
use Rattle.record_codec.specs.declared.entry.Entry.{Entry}
use Rattle.record_codec.specs.declared.record.Record.{Record}
use Rattle.realm_insert.specs.State.{State, SpendableState}
use Rattle.realm_files.specs.Rows as rows
use Rattle.realm_store.specs.Leading.{LeadsBy, LeadOnBy, Leads}
use Rattle.realm_store.specs.Stands.{meaning}
use Rattle.realm_store.specs.Accepting.{FailsAt}

-- the line is the text of the change
pub record IsReplayable (line : List ℕ) (change : Change) : Type 0 where
  pub spellable : IsSpellableChange change
  pub is_text : line ≡ change_text change

-- each of these records leads on, from the first state to the second
abbrev pub LeadOn : State → List Record → State → Type 0
LeadOn = rows.LeadOn meaning

-- the record leads from the state to none
abbrev pub LeadsNowhere : State → Record → Type 0
LeadsNowhere = rows.LeadsNowhere meaning

-- the entry led the engine from the state to its own; or it leads from it to none
pub record RemadeBy (state : State) (e : Entry) (leads : Bool) (engine : SpendableState) : Type 0 where
  pub ready : leads ≡ true → engine.spent ≡ false
  pub led : leads ≡ true → LeadsBy state e engine.state
  pub nowhere : leads ≡ false → (after : State) → LeadsBy state e after → ⊥

-- the record of these entries that comes next
abbrev pub record_next : State → List Entry → Record
record_next state entries = record { number = state.changes + 1; entries = entries }

-- and so of entries, one after another; or the one whose change would have this number leads nowhere
pub record RemadeOnBy (state : State) (entries : List Entry) (failed : Option ℕ) (engine : SpendableState) : Type 0 where
  pub ready : failed ≡ None → engine.spent ≡ false
  pub led : failed ≡ None → LeadOnBy state entries engine.state
  pub fails : (number : ℕ) → failed ≡ Some number → FailsAt state (record_next state entries) number

-- the record led the engine from the state to its own; or it leads from it to none
pub record Remade (state : State) (r : Record) (leads : Bool) (engine : SpendableState) : Type 0 where
  pub ready : leads ≡ true → engine.spent ≡ false
  pub led : leads ≡ true → Leads state r engine.state
  pub nowhere : leads ≡ false → LeadsNowhere state r
