use Rattle.std.proofs.Common.{◌∙◌}
use Rattle.page_codec.proofs.PageLemmas.{used_is}
use Rattle.page_codec.proofs.page.count_in.Goals as goal

-- the count stands in bytes 8 and 9
pub returns : goal.returns
returns c = λ number part rest fills e. c.from.ensures ∙ c.read_u16.ensures ∙ used_is c.args.bytes.now number part rest fills e
