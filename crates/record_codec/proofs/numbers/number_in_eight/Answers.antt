use Rattle.std.proofs.Common.{◌∙◌}
use Rattle.record_codec.proofs.NumberLemmas.{big_number-eight}
use Rattle.record_codec.proofs.numbers.number_in_eight.Goals as goal

-- the two readings agree
pub returns : goal.returns
returns c = c.read_u64.ensures ∙ big_number-eight c.args.bytes.now
