-- This file shows where records lead that stand in a row, and how it ends.
use Rattle.std.proofs.Common.{◌≡◌, ℕ, ◌+◌, List, [], ◌∷◌, ◌++◌, length, take, drop, get_or}
use Rattle.std.proofs.Common.{refl, sym, ◌∙◌, ap, subst, arith}
use Rattle.std.proofs.lemmas.List.{drop-drop, get_or-drop}
use Rattle.record_codec.specs.declared.record.Record.{Record}
use Rattle.record_codec.specs.Fitting.{IsRecord}
use Rattle.record_codec.specs.Spelling.{record_text}
use Rattle.realm_journal.specs.Gates.{open_gate, IsWrittenAt, IsOpenAt}
use Rattle.realm_journal.specs.Scanning.{IsScan, BeginsWithNone}
use Rattle.realm_files.specs.Meaning.{Meaning}
use Rattle.realm_files.specs.Rows.{AreLed, AreRecords, LacksRecord, LeadOn, LeadsNowhere}
use Rattle.realm_files.specs.Damages.{EndsBadly}
use Rattle.realm_files.proofs.LedOnce.{behind_written, opens, same_record}

-- what is written in the part of a file from a place on is written in the file, and back
written_in : (file : List ℕ) (at k : ℕ) (bytes : List ℕ) → IsWrittenAt k bytes (drop at file) → IsWrittenAt (at + k) bytes file
written_in file at k bytes written = ap (λ l. take (length bytes) l) (sym (drop-drop k at file)) ∙ written

written_part : (file : List ℕ) (at k : ℕ) (bytes : List ℕ) → IsWrittenAt (at + k) bytes file → IsWrittenAt k bytes (drop at file)
written_part file at k bytes written = ap (λ l. take (length bytes) l) (drop-drop k at file) ∙ written

module _ {S : Type 0} (m : Meaning S) (file : List ℕ) where
  -- they lead on, wherever they stand,
  pub led_on : (rs : List Record) (start end : S) (at place : ℕ) → AreLed m start rs at file end place → LeadOn m start rs end
  led_on [] start end at place (same, is) = same
  led_on (r ∷ rs) start end at place (mid, is, leads, written, later) =
      (mid, leads, led_on rs mid end (at + 1 + length (record_text r)) place later)

  -- and a scan finds them
  pub led_scan : (rs : List Record) (start end : S) (at place : ℕ) → AreLed m start rs at file end place → IsScan file at rs place
  led_scan [] start end at place (same, is) = is
  led_scan (r ∷ rs) start end at place (mid, is, leads, written, later) =
      (is, written, led_scan rs mid end (at + 1 + length (record_text r)) place later)

  -- one record more
  pub led_more : (rs : List Record) (r : Record) (start mid end : S) (at place : ℕ) → AreLed m start rs at file mid place → IsRecord r
      → m.leads mid r end → IsWrittenAt place (open_gate ∷ record_text r) file
      → AreLed m start (rs ++ r ∷ []) at file end (place + 1 + length (record_text r))
  led_more [] r start mid end at place (same, is) is_record leads written = (
    end,
    is_record,
    subst (λ s. m.leads s r end) same leads,
    subst (λ k. IsWrittenAt k (open_gate ∷ record_text r) file) is written,
    (refl, ap (λ k. k + 1 + length (record_text r)) is),
  )
  led_more (q ∷ rs) r start mid end at place (next, is_first, first, written_first, later) is_record leads written = (
    next,
    is_first,
    first,
    written_first,
    led_more rs r next mid end (at + 1 + length (record_text q)) place later is_record leads written,
  )

  -- where the bytes behind a gate begin with no record, none leads on there
  none_lacks : (state : S) (at : ℕ) → BeginsWithNone (drop (at + 1) file) → LacksRecord m state at file
  none_lacks state at none r after is leads written =
      let rest = drop (length (open_gate ∷ record_text r)) (drop at file) in
      let behind : drop (at + 1) file ≡ record_text r ++ rest =
      sym (drop-drop 1 at file) ∙ ap (λ l. drop 1 l) (behind_written at (open_gate ∷ record_text r) file written) in
      none r is (rest, behind)

  -- nor where the record that stands there leads nowhere
  nowhere_lacks : (state : S) (at : ℕ) (r : Record) → IsRecord r → IsWrittenAt at (open_gate ∷ record_text r) file
      → LeadsNowhere m state r → LacksRecord m state at file
  nowhere_lacks state at r is written nowhere q after is' leads written' =
      nowhere after (subst (λ x. m.leads state x after) (sym (same_record at r q file is is' written written')) leads)

  module _ (rs : List Record) (start reached : S) (at place : ℕ) (led : AreLed m start rs at file reached place) where
    -- the row ends at an open gate without a record,
    pub ends_at_none : IsOpenAt place file → BeginsWithNone (drop (place + 1) file) → EndsBadly m start rs at file
    ends_at_none opened none = record {
      state = reached;
      place = place;
      led = led;
      is_open = opened;
      lacks = none_lacks reached place none;
    }

    -- or at a record that leads nowhere
    pub ends_at_record : (r : Record) → IsRecord r → IsWrittenAt place (open_gate ∷ record_text r) file → LeadsNowhere m reached r
        → EndsBadly m start rs at file
    ends_at_record r is written nowhere = record {
      state = reached;
      place = place;
      led = led;
      is_open = opens place (record_text r) file written;
      lacks = nowhere_lacks reached place r is written nowhere;
    }

-- ---- rows in the part of a file from a place on

module _ {S : Type 0} (m : Meaning S) (file : List ℕ) (at : ℕ) where
  led_in : (rs : List Record) (start end : S) (k place : ℕ) → AreLed m start rs k (drop at file) end place
      → AreLed m start rs (at + k) file end (at + place)
  led_in [] start end k place (same, is) = (same, ap (λ j. at + j) is)
  led_in (r ∷ rs) start end k place (mid, is, leads, written, later) =
      let next : at + (k + 1 + length (record_text r)) ≡ at + k + 1 + length (record_text r) = omega arith in (
        mid,
        is,
        leads,
        written_in file at k (open_gate ∷ record_text r) written,
        subst (λ j. AreLed m mid rs j file end (at + place)) next (led_in rs mid end (k + 1 + length (record_text r)) place later),
      )

  led_from : (rs : List Record) (start end : S) (place : ℕ) → AreLed m start rs 0 (drop at file) end place
      → AreLed m start rs at file end (at + place)
  led_from rs start end place led =
      let here : at + 0 ≡ at = omega arith in
      subst (λ j. AreLed m start rs j file end (at + place)) here (led_in rs start end 0 place led)

  gate_in : (place : ℕ) → get_or (drop at file) place 0 ≡ get_or file (at + place) 0
  gate_in place = get_or-drop at file place 0

  -- they stand in the file, up to a closed gate,
  pub records_from : (rs : List Record) (start end : S) (place : ℕ) → AreRecords m start rs 0 (drop at file) end place
      → AreRecords m start rs at file end (at + place)
  records_from rs start end place (led, closed) =
      (led_from rs start end place led, λ opened. closed (gate_in place ∙ opened))

  -- or end badly in it
  pub ends_from : (rs : List Record) (start : S) → EndsBadly m start rs 0 (drop at file) → EndsBadly m start rs at file
  ends_from rs start ends = record {
    state = ends.state;
    place = at + ends.place;
    led = led_from rs start ends.state ends.place ends.led;
    is_open = sym (gate_in ends.place) ∙ ends.is_open;
    lacks = λ r after is leads written.
        ends.lacks r after is leads (written_part file at ends.place (open_gate ∷ record_text r) written);
  }
