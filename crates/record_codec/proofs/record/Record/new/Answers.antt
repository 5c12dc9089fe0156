use Rattle.std.proofs.Common.{arith}
use Rattle.record_codec.specs.Spelling.{body}
use Rattle.record_codec.proofs.EntryLemmas.{are_entries, text_fits}
use Rattle.record_codec.proofs.record.Record.new.Goals as goal

-- each entry has a text, and all of them fit
pub returns-clause-is_record : goal.returns-clause-is_record
unfolding body
returns-clause-is_record c = record {
  from_one = c.requires.from_one;
  number = omega arith;
  some = c.requires.some;
  entries = are_entries _ c.entries.ensures.fits c.requires.changes;
  length_fits = text_fits _ _ c.entries.ensures.fits;
}
