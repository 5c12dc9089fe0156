-- This file shows that a journal begins with a valid state, and that its entries lead from there to what is kept.
use Rattle.std.proofs.Common.{ℕ, List, [], ◌∷◌, ◌++◌, Option, Some, None, sym, subst, ◌∙◌}
use Rattle.record_codec.specs.declared.entry.Entry.{Entry}
use Rattle.record_codec.specs.declared.record.Record.{Record}
use Rattle.record_codec.specs.declared.snapshot.Snapshot.{Snapshot}
use Rattle.realm_insert.specs.State.{State}
use Rattle.realm_insert.specs.Snapshots.{state_of, IsValidState}
use Rattle.realm_files.specs.Rows.{AreLed}
use Rattle.realm_files.specs.Stands.{Files}
use Rattle.realm_files.specs.declared.place.Place.{Place}
use Rattle.realm_store.specs.Journals.{StandsFrom}
use Rattle.realm_store.specs.Leading.{LeadOnBy}
use Rattle.realm_store.specs.Stands.{meaning, Opens}
use Rattle.realm_store.proofs.EmptyStates.{opens_empty}
use Rattle.certificate_law.specs.Certificates.{entries_of}

-- what a payload opens is valid
opened_valid : (bytes : List ℕ) (s : State) → Opens bytes s → IsValidState s
opened_valid bytes s opens = subst IsValidState (sym opens.state_is) opens.valid

-- entries, and then others
pub entries_join : (start mid end : State) (xs ys : List Entry) → LeadOnBy start xs mid → LeadOnBy mid ys end → LeadOnBy start (xs ++ ys) end
entries_join start mid end [] ys is more = subst (λ s. LeadOnBy s ys end) is more
entries_join start mid end (e ∷ xs) ys (next, first, rest) more = (next, first, entries_join next mid end xs ys rest more)

led_entries : (start end : State) (records : List Record) (at next : ℕ) (file : List ℕ)
    → AreLed meaning start records at file end next → LeadOnBy start (entries_of records) end
led_entries start end [] at next file led = led.0
led_entries start end (r ∷ records) at next file (mid, text, leads, written, rest) =
    entries_join start mid end r.entries (entries_of records) leads.entries (led_entries mid end records _ next file rest)

-- a valid state, and entries that lead from there
pub record IsLed (start : State) (entries : List Entry) (end : State) : Type 0 where
  pub valid : IsValidState start
  pub lead : LeadOnBy start entries end

pub journal_led : (files : Files) (state : State) (place : Option Place) (base : Snapshot) (records : List Record)
    → StandsFrom files state place (state_of base) records → IsLed (state_of base) (entries_of records) state
journal_led files state None base records (none, first, is_empty, no_records) = record {
  valid = subst IsValidState (sym first) (opened_valid [] _ opens_empty);
  lead = subst (λ (l : List Record). LeadOnBy (state_of base) (entries_of l) state) (sym no_records) (is_empty ∙ sym first);
}
journal_led files state (Some place) base records stands = record {
  valid = opened_valid stands.payload (state_of base) stands.opens;
  lead = led_entries (state_of base) state records _ place.next (files place.file) stands.lead.0;
}
