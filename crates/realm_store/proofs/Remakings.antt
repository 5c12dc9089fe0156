-- This file shows where a row of records leads that is made again, one record after another.
use Rattle.std.proofs.Common.{◌≡◌, ℕ, ◌+◌, ◌≤◌, false, List, [], ◌∷◌, ◌++◌, length, drop}
use Rattle.std.proofs.Common.{refl, sym, subst, arith, length-append}
use Rattle.record_codec.specs.declared.record.Record.{Record}
use Rattle.realm_insert.specs.State.{State, SpendableState}
use Rattle.realm_journal.specs.Gates.{IsOpenAt, IsClosedAt}
use Rattle.realm_journal.specs.Scanning.{BeginsWithNone, IsRecordAt}
use Rattle.realm_files.specs.Rows.{AreLed}
use Rattle.realm_files.proofs.LedRows.{led_more, ends_at_none, ends_at_record}
use Rattle.realm_store.specs.Leading.{Leads}
use Rattle.realm_store.specs.Stands.{meaning}
use Rattle.realm_store.specs.Replaying.{LeadsNowhere}
use Rattle.realm_store.specs.Remaking.{IsRemadeRow, IsCutRow}

-- so many records led the engine from the state to its own, and behind them is the gate of this place
pub record IsLedTo (start : State) (bytes : List ℕ) (count place : ℕ) (engine : SpendableState) : Type 0 where
  pub records : List Record
  pub led : AreLed meaning start records 0 bytes engine.state place
  pub count_is : count ≡ length records
  pub fits : count ≤ place
  pub within : place ≤ length bytes
  pub ready : engine.spent ≡ false

-- none did yet
pub led_none : (bytes : List ℕ) (engine : SpendableState) → engine.spent ≡ false → IsLedTo engine.state bytes 0 0 engine
led_none bytes engine ready = record {
  records = [];
  led = (refl, refl);
  count_is = refl;
  fits = omega arith;
  within = omega arith;
  ready = ready;
}

module _ {start : State} {bytes : List ℕ} {count place : ℕ} {engine : SpendableState} (so_far : IsLedTo start bytes count place engine) where
  -- the gate there is closed,
  pub row_closed : IsClosedAt place bytes → IsRemadeRow start bytes place engine
  row_closed closed = record {
    records = so_far.records;
    lead = (so_far.led, closed);
    within = so_far.within;
    ready = so_far.ready;
  }

  -- or open without a record behind it,
  pub row_cut : IsOpenAt place bytes × BeginsWithNone (drop (place + 1) bytes) → IsCutRow start bytes count
  row_cut (opened, none) = record {
    records = so_far.records;
    count_is = so_far.count_is;
    within = omega (arith, so_far.fits, so_far.within);
    ends = ends_at_none meaning bytes so_far.records start engine.state 0 place so_far.led opened none;
  }

  module _ {r : Record} {end : ℕ} (next : IsRecordAt bytes place r end) where
    -- or the record there leads nowhere,
    pub row_stops : LeadsNowhere engine.state r → IsCutRow start bytes count
    row_stops nowhere = record {
      records = so_far.records;
      count_is = so_far.count_is;
      within = omega (arith, so_far.fits, so_far.within);
      ends = ends_at_record meaning bytes so_far.records start engine.state 0 place so_far.led r next.is_record next.written nowhere;
    }

    -- or it leads on
    pub led_next : {new : SpendableState} → Leads engine.state r new.state → new.spent ≡ false
        → IsLedTo start bytes (count + 1) end new
    led_next {new} leads ready =
        let led = led_more meaning bytes so_far.records r start engine.state new.state 0 place so_far.led next.is_record leads next.written in
        record {
          records = so_far.records ++ r ∷ [];
          led = subst (λ k. AreLed meaning start (so_far.records ++ r ∷ []) 0 bytes new.state k) (sym next.end_is) led;
          count_is = omega (arith, so_far.count_is, length-append so_far.records (r ∷ []));
          fits = omega (arith, so_far.fits, next.end_is);
          within = next.within;
          ready = ready;
        }
