-- This file shows what two files stand for by the records of the newest, which were made again.
use Rattle.std.proofs.Common.{◌≡◌, ◌∙◌, ℕ, ◌+◌, ◌-◌, ◌^◌, ◌<◌, ◌≤◌, ltb, min, Bool, true, false, List, [], ◌∷◌, length, drop, Some, None, All}
use Rattle.std.proofs.Common.{inr, refl, sym, ap, subst, arith, length-drop}
use Rattle.std.proofs.lemmas.Bool.{ltb-true, lt-ltb}
use Rattle.std.proofs.lemmas.List.Elements.{All-nil, All-cons}
use Rattle.std.specs.Prelude.{Result, Ok, Err}
use Rattle.outside_world.specs.View.{View}
use Rattle.record_codec.specs.declared.record.Record.{Record}
use Rattle.record_codec.specs.Fitting.{IsRecord}
use Rattle.record_codec.specs.Spelling.{record_text}
use Rattle.realm_insert.specs.State.{State, SpendableState}
use Rattle.realm_journal.specs.Reading.{OnlyAsks}
use Rattle.realm_journal.specs.Scanning.{IsScan, Scans}
use Rattle.realm_pages.specs.declared.damage.Damage.TheVariants.{BadRecord}
use Rattle.realm_pages.specs.declared.error.PagesError.{PagesError}
use Rattle.realm_pages.specs.declared.error.PagesError.TheVariants.{Damaged}
use Rattle.realm_pages.proofs.Asks.{asks_none}
use Rattle.realm_files.specs.Rows.{AreRecords}
use Rattle.realm_files.specs.Damages.{EndsBadly}
use Rattle.realm_files.specs.Stands.{generation_at}
use Rattle.realm_files.specs.Writing.{with_gate}
use Rattle.realm_files.specs.declared.place.Place.{Place}
use Rattle.realm_files.proofs.NewestFronts.{holds_reach}
use Rattle.realm_files.proofs.LedRows.{led_on, led_scan, records_from, ends_from}
use Rattle.realm_store.specs.declared.opening.Opened.{Opened}
use Rattle.realm_store.specs.Stands.{meaning}
use Rattle.realm_store.specs.Keeping.{Kept, kept_at}
use Rattle.realm_store.specs.Journals.{StandsBy}
use Rattle.realm_store.specs.Replaying.{LeadOn}
use Rattle.realm_store.specs.Remaking.{IsRemadeRow, IsCutRow, RowRemade}
use Rattle.realm_store.specs.declared.remaking.RowEnd.{RowEnd}
use Rattle.realm_store.specs.declared.remaking.RowEnd.TheVariants.{Closed, Bad}
use Rattle.realm_store.specs.Opening.{IsBaseOn, IsBase, LeadsTo, IsBadRow, OpensRow, IsReadFrom, RecordsOpened}
use Rattle.realm_store.proofs.Journals.{stands_by_journal}

-- ---- the records of one file

-- what bytes hold is one list
abbrev pub AreHeld : List ℕ → List Record → Type 0
AreHeld bytes list = (l : List Record) (end : ℕ) (bad : Bool) → Scans bytes 0 l end bad → list ≡ l

-- where there is no byte, there is no record,
none_held : {bytes : List ℕ} {list : List Record} → bytes ≡ [] → AreHeld bytes list → list ≡ []
none_held {bytes} {list} none held =
    let scans : Scans [] 0 [] 0 false = record {
      records = refl;
      ends = record { closed = λ _ no. absurd cc; is_bad = λ no. absurd cc };
    } in
    held [] 0 false (subst (λ l. Scans l 0 [] 0 false) (sym none) scans)

-- and none lead to where they begin
pub none_lead_to : {start state : State} {bytes : List ℕ} {list : List Record} → state ≡ start → bytes ≡ [] → AreHeld bytes list
    → LeadOn start list state
none_lead_to {start} {state} reached none held = subst (λ l. LeadOn start l state) (sym (none_held none held)) reached

-- and none is one without a text
pub none_have_texts : {bytes : List ℕ} {list : List Record} → bytes ≡ [] → AreHeld bytes list → All IsRecord list
none_have_texts none held = subst (λ l. All IsRecord l) (sym (none_held none held)) (All-nil IsRecord)

scan_texts : (file : List ℕ) (at : ℕ) (records : List Record) (end : ℕ) → IsScan file at records end → All IsRecord records
scan_texts file at [] end scan = All-nil IsRecord
scan_texts file at (r ∷ more) end scan =
    All-cons IsRecord r more scan.0 (scan_texts file (at + 1 + length (record_text r)) more end scan.2)

-- a row that was made again, or was cut
pub row_remade : (start : State) (bytes shown : List ℕ) (end : ℕ) (engine : SpendableState) (found : RowEnd)
    → RowRemade start shown found engine → found ≡ Closed end → shown ≡ bytes → IsRemadeRow start bytes end engine
row_remade start bytes shown end engine found made is same =
    subst (λ l. IsRemadeRow start l end engine) same (subst (λ x. RowRemade start shown x engine) is made)

pub row_cut_off : (start : State) (bytes shown : List ℕ) (count : ℕ) (engine : SpendableState) (found : RowEnd)
    → RowRemade start shown found engine → found ≡ Bad count → shown ≡ bytes → IsCutRow start bytes count
row_cut_off start bytes shown count engine found made is same =
    subst (λ l. IsCutRow start l count) same (subst (λ x. RowRemade start shown x engine) is made)

-- a row that was made again, of bytes that hold these records
module _ {start : State} {bytes : List ℕ} {end : ℕ} {engine : SpendableState} (row : IsRemadeRow start bytes end engine)
    {list : List Record} (held : AreHeld bytes list) where
  scan : IsScan bytes 0 row.records end
  scan = led_scan meaning bytes row.records start engine.state 0 end row.lead.0

  same : list ≡ row.records
  same = held row.records end false (record {
    records = scan;
    ends = record { closed = λ _. row.lead.1; is_bad = λ no. absurd cc };
  })

  -- each of them has a text,
  pub held_texts : All IsRecord list
  held_texts = subst (λ l. All IsRecord l) (sym same) (scan_texts bytes 0 row.records end scan)

  -- and they lead to the engine's state, wherever they stand,
  pub held_lead : {state : State} → state ≡ engine.state → LeadOn start list state
  held_lead {state} reached =
      let lead = led_on meaning bytes row.records start engine.state 0 end row.lead.0 in
      subst (λ l. LeadOn start l state) (sym same) (subst (λ s. LeadOn start row.records s) (sym reached) lead)

  -- and in a file that has these bytes from a place on
  pub row_leads : {place next : Place} {file : List ℕ} {opened : Opened} {told size : ℕ} → length file < 2 ^ 64
      → bytes ≡ drop place.next file → place.next ≤ length file → told ≡ min (place.next + end) (2 ^ 64 - 1)
      → size ≡ length bytes → next ≡ with_gate place told → opened.store.kept ≡ kept_at engine.state (Some next) (ltb end size)
      → opened.records ≡ list → OpensRow file start place (Ok opened)
  row_leads {place} {next} {file} {opened} {told} {size} short are within saturated size_is is_next kept_is records_are =
      let has_gate = ltb end size in
      let behind = length-drop place.next file in
      let there : place.next + end ≡ told = omega (arith, short, within, saturated, row.within, ap length are, behind) in
      let part = subst (λ l. AreRecords meaning start row.records 0 l engine.state end) are row.lead in
      let lead = records_from meaning file place.next row.records start engine.state end part in
      let kept : Kept = kept_at engine.state (Some (with_gate place told)) has_gate in
      let leads : LeadsTo file start place row.records kept = record {
        next = told;
        lead = subst (λ k. AreRecords meaning start row.records place.next file engine.state k) there lead;
        place_is = refl;
        within = omega (arith, there, within, row.within, ap length are, behind);
        gate = (
          λ has. omega (arith, ltb-true end size has, size_is, there, within, ap length are, behind),
          λ lt. lt-ltb end size (omega (arith, lt, size_is, there, within, ap length are, behind)),
        );
      } in
      let at_next = kept_is ∙ ap (λ n. kept_at engine.state (Some n) has_gate) is_next in
      let by_these = subst (λ l. LeadsTo file start place l kept) (sym (records_are ∙ same)) leads in
      record {
        leads = subst (λ k. LeadsTo file start place opened.records k) (sym at_next) by_these;
        damaged = λ d no. absurd cc;
      }

-- or it ends badly there
pub row_is_bad : {start : State} {bytes : List ℕ} {count : ℕ} → IsCutRow start bytes count → {place : Place} {file : List ℕ}
    → bytes ≡ drop place.next file → {number : ℕ} → number ≡ count + 1
    → OpensRow file start place (Err (Damaged (BadRecord place.file number)))
row_is_bad {start} row {place} {file} are {number} is =
    let part = subst (λ l. EndsBadly meaning start row.records 0 l) are row.ends in
    let bad_row : IsBadRow file start place (BadRecord place.file number) = record {
      records = row.records;
      ends = ends_from meaning file place.next row.records start part;
      is = ap (λ n. BadRecord place.file n) (is ∙ ap (λ k. k + 1) row.count_is);
    } in
    record {
      leads = tt;
      damaged = λ d same. let one : BadRecord place.file number ≡ d = cc in subst (λ x. IsBadRow file start place x) one bad_row;
    }

-- ---- both files

module _ {old new : View} {start : State} {place : Place} (asks : OnlyAsks old new) (base : IsBaseOn old.reads start place) where
  -- the place is within its file
  pub reaches : place.next ≤ length (old.reads place.file)
  reaches = omega (arith, base.gate, holds_reach (generation_at place base.payload) (old.reads place.file) base.newest.holds)

  row_read : {records : List Record} {kept : Kept} → LeadsTo (old.reads place.file) start place records kept
      → IsReadFrom old.reads start records kept
  row_read {records} {kept} leads =
      let there = with_gate place leads.next in
      let kept_is : kept ≡ kept_at kept.state (Some there) kept.has_gate = λ i. kept_at kept.state (leads.place_is i) kept.has_gate in
      let journal : StandsBy old.reads kept.state there start records = record {
        payload = base.payload;
        newest = base.newest;
        opens = base.opens;
        lead = subst (λ at. AreRecords meaning start records at (old.reads place.file) kept.state leads.next) base.gate leads.lead;
      } in
      let at_place : IsReadFrom old.reads start records (kept_at kept.state (Some there) kept.has_gate) = record {
        journal = journal;
        rests = record {
          stands = stands_by_journal old.reads kept.state (Some there) start records journal;
          reach = (leads.within, λ has. leads.gate.0 has);
        };
        knows = λ next is lt.
            let same : next ≡ there = cc in
            leads.gate.1 (subst (λ (p : Place). p.next < length (old.reads p.file)) same lt);
      } in
      subst (λ k. IsReadFrom old.reads start records k) (sym kept_is) at_place

  -- what is opened of its row is opened of both files
  pub row_opened : (r : Result Opened PagesError) → OpensRow (old.reads place.file) start place r → RecordsOpened old new start r
  row_opened (Ok opened) row = record { asks = asks; read = row_read row.leads; damaged = λ d no. absurd cc }
  row_opened (Err e) row = record {
    asks = asks;
    read = tt;
    damaged = λ d is.
        let bad = row.damaged d is in
        inr (inr (record {
          file = place.file;
          generation = generation_at place base.payload;
          newest = base.newest;
          first = start;
          opens = base.opens;
          records = bad.records;
          ends = subst (λ at. EndsBadly meaning start bad.records at (old.reads place.file)) base.gate bad.ends;
          is = bad.is;
        }));
  }

-- where no file counts, there is no record
pub none_opened : {v : View} {start : State} {opened : Opened} {bytes : List ℕ} → IsBase v.reads start None
    → opened.store.kept ≡ kept_at start None true → bytes ≡ [] → AreHeld bytes opened.records → RecordsOpened v v start (Ok opened)
none_opened {v} {start} {opened} base kept_is no_byte held =
    let none = none_held no_byte held in
    let read : IsReadFrom v.reads start [] (kept_at start None true) = record {
      journal = (base.0, base.1, base.1, refl);
      rests = record { stands = base; reach = refl };
      knows = λ place no. absurd cc;
    } in
    let by_these = subst (λ l. IsReadFrom v.reads start l (kept_at start None true)) (sym none) read in
    record {
      asks = asks_none;
      read = subst (λ k. IsReadFrom v.reads start opened.records k) (sym kept_is) by_these;
      damaged = λ d no. absurd cc;
    }
