use Rattle.std.proofs.Common.{◌+◌, ◌-◌, arith}
use Rattle.std.specs.Int.{w64, to_be_bytes}
use Rattle.record_codec.proofs.NumberLemmas.{written_over}
use Rattle.record_codec.proofs.numbers.put_eight.Goals as goal

-- nothing of the eight bytes is left
pub returns : goal.returns
returns c =
    written_over c.args.bytes.now (to_be_bytes w64 c.args.number) c.write_u64.new.buf c.args.at 8 (c.args.at + 8 - c.args.at)
    (omega arith) c.write_u64.ensures
