use Rattle.record_codec.proofs.Bytes.{IsBytes}
use Rattle.record_codec.proofs.BodyLemmas.{entry_codec}
use Rattle.record_codec.proofs.bodies.read_single.Goals as goal

-- no line that was read is too long
pub one-requires : goal.one-requires
one-requires c =
    let is_bytes : IsBytes c.args.source.now = rw (← c.left.ensures) c.bytes_fit.ensures in
    let takes = entry_codec.takes c.args.source.now c.in_ok-entry.entry c.read.new.source is_bytes c.in_ok-entry.ensures in
    record { short = takes.0.line }
