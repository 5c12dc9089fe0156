use Rattle.page_codec.specs.Pages.{digest_found}
use Rattle.page_codec.proofs.page.found_of.Goals as goal

-- it is made of all bytes before the place of the digest
pub returns : goal.returns
unfolding digest_found
returns c = c.digest.ensures
