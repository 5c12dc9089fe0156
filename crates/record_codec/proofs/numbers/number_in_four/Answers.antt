use Rattle.std.proofs.Common.{◌∙◌}
use Rattle.record_codec.proofs.NumberLemmas.{big_number-four}
use Rattle.record_codec.proofs.numbers.number_in_four.Goals as goal

-- the two readings agree
pub returns : goal.returns
returns c = c.read_u32.ensures ∙ big_number-four c.args.bytes.now
