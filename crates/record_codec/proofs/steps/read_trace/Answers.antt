use Rattle.record_codec.proofs.Bytes.{IsBytes}
use Rattle.record_codec.proofs.Codecs.{list_codec}
use Rattle.record_codec.proofs.StepLemmas.{step_codec}
use Rattle.record_codec.proofs.steps.read_trace.Goals as goal

-- each step that was read has a text
pub of-requires : goal.of-requires
of-requires c =
    let is_bytes : IsBytes c.args.source.now = rw (← c.left.ensures) c.bytes_fit.ensures in
    ((list_codec step_codec).takes c.args.source.now c.in_ok-steps.steps.items c.read_list.new.source is_bytes c.in_ok-steps.ensures).0.1
