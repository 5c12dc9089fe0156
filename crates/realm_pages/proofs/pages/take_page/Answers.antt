use Rattle.std.proofs.Common.{◌+◌, List, ℕ, sym, subst, ◌∙◌}
use Rattle.realm_pages.specs.Files.{HoldsFirst}
use Rattle.realm_pages.proofs.PageJudgements.{holds_more}
use Rattle.realm_pages.proofs.pages.take_page.Goals as goal

-- one page more
pub returns-clause-taken : goal.returns-clause-taken
returns-clause-taken c = λ whole page hold.
    let (size, is) = c.in_ok-part.ensures in
    let more = holds_more c.args.payload.now.items c.in_ok-part.part.now c.requires.more hold size (sym page ∙ is) in
    subst (λ (l : List ℕ). HoldsFirst whole c.args.size (c.args.before + 1) l) (sym c.in_ok-extend_from_slice.ensures.items) more
