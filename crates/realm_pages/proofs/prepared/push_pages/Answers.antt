use Rattle.std.proofs.Common.{ap, ◌∙◌, ◌+◌}
use Rattle.page_codec.specs.Pages.{page_of}
use Rattle.realm_pages.proofs.Parts.{pages_more}
use Rattle.realm_pages.proofs.prepared.push_pages.Goals as goal

-- one page more
pub loop-page-preserved : goal.loop-page-preserved
loop-page-preserved c =
    c.in_ok-extend_from_slice.ensures.items
    ∙ pages_more c.args.text.now.items c.args.payload.now c.loop-page.page c.loop-page.invariant
    (c.encode_page.ensures ∙ ap (page_of (c.loop-page.page + 1)) c.part_for-part.ensures.part)
