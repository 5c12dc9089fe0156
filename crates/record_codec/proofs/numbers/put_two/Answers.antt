use Rattle.std.proofs.Common.{◌+◌, ◌-◌, arith}
use Rattle.std.specs.Int.{w16, to_be_bytes}
use Rattle.record_codec.proofs.NumberLemmas.{written_over}
use Rattle.record_codec.proofs.numbers.put_two.Goals as goal

-- nothing of the two bytes is left
pub returns : goal.returns
returns c =
    written_over c.args.bytes.now (to_be_bytes w16 c.args.number) c.write_u16.new.buf c.args.at 2 (c.args.at + 2 - c.args.at)
    (omega arith) c.write_u16.ensures
