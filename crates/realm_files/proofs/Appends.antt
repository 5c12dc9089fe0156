-- This file shows what two files stand for while a record is appended to the newest.
use Rattle.std.proofs.Common.{◌≡◌, ◌≢◌, inl, inr, ⊎_elim, ℕ, ◌+◌, ◌≤◌, List, [], ◌∷◌, ◌++◌, length, take}
use Rattle.std.proofs.Common.{◌∙◌, ap, arith}
use Rattle.std.specs.Prelude.{Result, Ok, Err, OnOk}
use Rattle.outside_world.specs.declared.world.FileName.{FileName}
use Rattle.outside_world.specs.View.{View, IsStable}
use Rattle.record_codec.specs.declared.record.Record.{Record}
use Rattle.record_codec.specs.Fitting.{IsRecord}
use Rattle.record_codec.specs.Spelling.{record_text}
use Rattle.realm_journal.specs.declared.error.JournalError.{JournalError}
use Rattle.realm_journal.specs.Gates.{IsClosedAt, HasClosedAt, IsWholeAt}
use Rattle.realm_journal.specs.Appending.{IsPart, Appended}
use Rattle.realm_pages.specs.Generations.{gate_of}
use Rattle.realm_files.specs.Meaning.{Meaning}
use Rattle.realm_files.specs.Stands.{Files, StandsOn, generation_at}
use Rattle.realm_files.specs.Keeping.{at_gate, RestsAt, AllRest}
use Rattle.realm_files.specs.Writing.{with_gate, RestsBetween, Committed}
use Rattle.realm_files.specs.declared.place.Place.{Place}
use Rattle.realm_files.proofs.Fronts.{led_reach, led_front, led_more, whole_closed, whole_within}
use Rattle.realm_files.proofs.NewestFronts.{newest_front}
use Rattle.realm_files.proofs.Runs.{leaves_by_writing}
use Rattle.realm_files.proofs.Rests.{stable_by_writing}

module _ {S : Type 0} (m : Meaning S) where
  -- other files with the same bytes before the next gate, and the same otherwise
  module _ (was files : Files) (state : S) (place : Place) (stands : StandsOn m was state place)
      (others : (f : FileName) → f ≢ place.file → files f ≡ was f)
      (front : take place.next (files place.file) ≡ take place.next (was place.file)) where
    abbrev gate : ℕ
    gate = gate_of (generation_at place stands.payload)

    reach : gate ≤ place.next
    reach = led_reach m stands.first stands.records gate (was place.file) state place.next stands.lead.0

    -- where the gate is closed they stand for the same state,
    stands_front : IsClosedAt place.next (files place.file) → StandsOn m files state place
    stands_front closed = record {
      payload = stands.payload;
      newest = newest_front (generation_at place stands.payload) was files place.file place.next reach others front stands.newest;
      first = stands.first;
      opens = stands.opens;
      records = stands.records;
      lead = (
        led_front m stands.first stands.records gate (was place.file) (files place.file) state place.next stands.lead.0 front,
        closed,
      );
    }

    -- and where a record stands whole behind it, for the state after it
    stands_more : (after : S) (r : Record) → IsRecord r → m.leads state r after
        → IsWholeAt place.next (record_text r) (files place.file)
        → StandsOn m files after (with_gate place (place.next + 1 + length (record_text r)))
    stands_more after r is_record leads whole = record {
      payload = stands.payload;
      newest = newest_front (generation_at place stands.payload) was files place.file place.next reach others front stands.newest;
      first = stands.first;
      opens = stands.opens;
      records = stands.records ++ r ∷ [];
      lead = (
        led_more m stands.first stands.records gate (was place.file) (files place.file) state place.next r after stands.lead.0 front
            is_record leads whole,
        whole_closed place.next (record_text r) (files place.file) whole,
      );
    }

    -- each time the gate of the next record is within its file
    pub rests_front : HasClosedAt place.next (files place.file) → RestsAt m (at_gate state place) files
    rests_front closed = record { stands = stands_front closed.1; reach = (omega (arith, closed.0), λ _. closed.0) }

    rests_more : (after : S) (r : Record) → IsRecord r → m.leads state r after
        → IsWholeAt place.next (record_text r) (files place.file)
        → RestsAt m (at_gate after (with_gate place (place.next + 1 + length (record_text r)))) files
    rests_more after r is_record leads whole =
        let within = whole_within place.next (record_text r) (files place.file) whole in
        record { stands = stands_more after r is_record leads whole; reach = (omega (arith, within), λ _. within) }

  -- while a record is appended, the files rest before it or behind it
  module _ {old : View} {state : S} (after : S) {place : Place} (r : Record) (is_record : IsRecord r) (leads : m.leads state r after)
      (rest : AllRest m (at_gate state place) old) where
    abbrev behind : Place
    behind = with_gate place (place.next + 1 + length (record_text r))

    module _ (files : Files) (others : (f : FileName) → f ≢ place.file → old.image f (files f))
        (part : IsPart old place.file place.next (record_text r) (files place.file)) where
      apart : (f : FileName) → f ≢ place.file → files f ≡ old.reads f
      apart f differ = rest.stable f (files f) (others f differ)

      front : take place.next (files place.file) ≡ take place.next (old.reads place.file)
      front = part.front ∙ ap (λ l. take place.next l) (rest.stable place.file part.was part.could)

      rests_behind : IsWholeAt place.next (record_text r) (files place.file) → RestsAt m (at_gate after behind) files
      rests_behind whole = rests_more old.reads files state place rest.rests.stands apart front after r is_record leads whole

      rests_between : RestsBetween m (at_gate state place) (at_gate after behind) files
      rests_between has =
          ⊎_elim
          (λ closed. inl (inl (rests_front old.reads files state place rest.rests.stands apart front closed)))
          (λ whole. inr (rests_behind whole))
          part.gate

    pub committed : {new : View} (result : Result ℕ JournalError) → ((f : FileName) → new.image f (new.reads f))
        → Appended old new place.file place.next (record_text r) result
        → Committed m old new (at_gate state place) (at_gate after behind) result
    committed {new} result reads appended = record {
      written = leaves_by_writing appended.writes rests_between;
      rest = at_ok result appended.whole appended.stable;
    }
      where
        at_ok : (result : Result ℕ JournalError)
            → OnOk result ((c : List ℕ) → new.image place.file c → IsWholeAt place.next (record_text r) c)
            → OnOk result (IsStable new place.file) → OnOk result (AllRest m (at_gate after behind) new)
        at_ok (Ok n) whole stable = record {
          stable = stable_by_writing appended.writes rest.stable stable;
          rests = rests_behind new.reads (λ f differ. appended.writes.others f (new.reads f) differ (reads f))
              (appended.writes.named (new.reads place.file) (reads place.file)) (whole (new.reads place.file) (reads place.file));
        }
        at_ok (Err e) whole stable = tt
