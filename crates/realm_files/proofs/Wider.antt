-- This file shows that files stand for the same by a wider meaning.
use Rattle.std.proofs.Common.{◌≡◌, ◌∙◌, ℕ, ◌+◌, List, [], ◌∷◌, length, Option, Some, None}
use Rattle.record_codec.specs.declared.record.Record.{Record}
use Rattle.record_codec.specs.Spelling.{record_text}
use Rattle.realm_files.specs.Meaning.{Meaning}
use Rattle.realm_files.specs.Rows.{AreLed}
use Rattle.realm_files.specs.Stands.{Files, StandsAt}
use Rattle.realm_files.specs.declared.place.Place.{Place}

-- what opens by the first meaning does so by the second, and a record leads where it led
module _ {S : Type 0} (m n : Meaning S) (empty : m.empty ≡ n.empty) (opens : (payload : List ℕ) (s : S) → m.opens payload s
    → n.opens payload s) (leads : (s : S) (r : Record) (t : S) → m.leads s r t → n.leads s r t) where
  led_wider : (start : S) (rs : List Record) (at : ℕ) (file : List ℕ) (end : S) (next : ℕ) → AreLed m start rs at file end next
      → AreLed n start rs at file end next
  led_wider start [] at file end next led = led
  led_wider start (r ∷ rs) at file end next (mid, is, on, written, later) =
      (mid, is, leads start r mid on, written, led_wider mid rs (at + 1 + length (record_text r)) file end next later)

  pub stands_wider : (files : Files) (state : S) (place : Option Place) → StandsAt m files state place → StandsAt n files state place
  stands_wider files state None stands = (stands.0, stands.1 ∙ empty)
  stands_wider files state (Some place) stands = record {
    payload = stands.payload;
    newest = stands.newest;
    first = stands.first;
    opens = opens stands.payload stands.first stands.opens;
    records = stands.records;
    lead = (led_wider stands.first stands.records _ (files place.file) state place.next stands.lead.0, stands.lead.1);
  }
