use Rattle.std.proofs.Common.{refl, ◌∙◌}
use Rattle.std.specs.Int.{w16, to_be_bytes}
use Rattle.record_codec.proofs.ZeroLemmas.{put_behind}
use Rattle.record_codec.proofs.zeros.put_short.Goals as goal

-- the number goes where the zeros begin
pub returns : goal.returns
returns c = λ before n len_is bytes_are.
    c.put_two.ensures
    ∙ put_behind c.args.bytes.now before (to_be_bytes w16 c.args.number) c.args.at 2 n len_is refl bytes_are
