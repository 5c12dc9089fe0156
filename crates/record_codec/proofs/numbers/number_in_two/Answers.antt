use Rattle.std.proofs.Common.{◌∙◌}
use Rattle.record_codec.proofs.NumberLemmas.{big_number-two}
use Rattle.record_codec.proofs.numbers.number_in_two.Goals as goal

-- the two readings agree
pub returns : goal.returns
returns c = c.read_u16.ensures ∙ big_number-two c.args.bytes.now
