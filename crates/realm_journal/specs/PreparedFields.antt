-- What the block of a record stands for.
use Rattle.std.specs.Prelude.{◌≡◌, ℕ, List, [], Option, Some, None}
use Rattle.record_codec.specs.declared.record.Record.{Record}
use Rattle.record_codec.specs.Reading.{record_at}
use Rattle.record_codec.specs.Fitting.{IsRecord}
use Rattle.record_codec.specs.Spelling.{record_text}
use Rattle.realm_journal.specs.declared.prepared.Prepared.TheInside.{Inside}

-- what was read, and a record that has no text where nothing was
abbrev pub record_or_none : Option (Record × List ℕ) → Record
record_or_none None = record { number = 0; entries = [] }
record_or_none (Some read) = read.0

-- the record that is read from the block
abbrev pub record_within : Inside → Record
record_within p = record_or_none (record_at p.block)

-- which is a record, and the block is its text
pub record IsOfRecord (p : Inside) : Type 0 where
  pub is_record : IsRecord (record_within p)
  pub is_text : p.block ≡ record_text (record_within p)
