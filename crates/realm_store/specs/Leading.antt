-- What a record makes of a state.
use Rattle.std.specs.Prelude.{◌≡◌, ◌+◌, List, [], ◌∷◌}
use Rattle.line_grammar.specs.declared.command.Change.{Change}
use Rattle.line_grammar.specs.Spelling.{change_text}
use Rattle.line_grammar.specs.Spellable.{IsSpellableChange}
use Rattle.record_codec.specs.declared.entry.Entry.{Entry}
use Rattle.record_codec.specs.declared.record.Record.{Record}
use Rattle.realm_insert.specs.State.{State}
use Rattle.realm_insert.specs.Next.{Next}

-- the line of the entry is the text of a change that is accepted, and its trace settles it
pub record LeadsBy (old : State) (e : Entry) (new : State) : Type 0 where
  pub change : Change
  pub spellable : IsSpellableChange change
  pub line : e.line ≡ change_text change
  pub next : Next old change e.trace new

-- the entries lead on, one after another
abbrev pub LeadOnBy : State → List Entry → State → Type 0
LeadOnBy start [] end = end ≡ start
LeadOnBy start (e ∷ more) end = (mid : State) × LeadsBy start e mid × LeadOnBy mid more end

-- the record has the next number, and its entries lead on
pub record Leads (old : State) (r : Record) (new : State) : Type 0 where
  pub number : r.number ≡ old.changes + 1
  pub entries : LeadOnBy old r.entries new
