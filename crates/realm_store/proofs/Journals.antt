-- This file shows that files stand for what their journal leads to.
use Rattle.std.proofs.Common.{List}
use Rattle.std.specs.Prelude.{Option, Some, None}
use Rattle.record_codec.specs.declared.record.Record.{Record}
use Rattle.realm_insert.specs.State.{State}
use Rattle.realm_files.specs.Stands.{Files}
use Rattle.realm_files.specs.declared.place.Place.{Place}
use Rattle.realm_store.specs.Stands.{StandsAt}
use Rattle.realm_store.specs.Journals.{StandsFrom}

-- the first state is one that the payload opens, and there are such records
pub stands_by_journal : (files : Files) (state : State) (place : Option Place) (first : State) (records : List Record)
    → StandsFrom files state place first records → StandsAt files state place
stands_by_journal files state None first records journal = (journal.0, journal.2)
stands_by_journal files state (Some place) first records journal = record {
  payload = journal.payload;
  newest = journal.newest;
  first = first;
  opens = journal.opens;
  records = records;
  lead = journal.lead;
}
