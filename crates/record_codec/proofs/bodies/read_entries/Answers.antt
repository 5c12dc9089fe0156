use Rattle.record_codec.proofs.Bytes.{IsBytes}
use Rattle.record_codec.proofs.Codecs.{list_codec}
use Rattle.record_codec.proofs.BodyLemmas.{short_lines, entry_codec}
use Rattle.record_codec.proofs.bodies.read_entries.Goals as goal

-- no line that was read is too long
pub of-requires : goal.of-requires
of-requires c =
    let is_bytes : IsBytes c.args.source.now = rw (← c.left.ensures) c.bytes_fit.ensures in
    let entries = c.in_ok-entries.entries.items in
    let takes = (list_codec entry_codec).takes c.args.source.now entries c.read_list.new.source is_bytes c.in_ok-entries.ensures in
    record { short = short_lines entries takes.0.1 }
