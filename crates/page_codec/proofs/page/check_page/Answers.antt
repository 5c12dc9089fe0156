use Rattle.std.proofs.Common.{◌≡◌, ℕ, List, sym, ◌∙◌}
use Rattle.sha2.specs.Sha256.{sha256}
use Rattle.page_codec.specs.Pages.{Fills, body_of, page_of, part_of}
use Rattle.page_codec.proofs.PageLemmas.{as_page, digests_agree, page_is, equal, apart}
use Rattle.page_codec.proofs.page.check_page.Goals as goal

-- the digests of a page agree
pub returns-then-ne-clause-only : goal.returns-then-ne-clause-only
returns-then-ne-clause-only c = λ part fills e.
    absurd (apart c.kept_in-kept.result c.found_of-found.result c.ne.result c.ne.ensures c.if-ne.true
    (c.kept_in-kept.ensures ∙ digests_agree c.args.bytes.now c.args.number part fills e ∙ sym c.found_of-found.ensures))

-- both digests are shown
pub returns-then-ne-clause-fault : goal.returns-then-ne-clause-fault
returns-then-ne-clause-fault c = (
  c.kept_in-kept.ensures,
  c.found_of-found.ensures,
  apart c.kept_in-kept.result c.found_of-found.result c.ne.result c.ne.ensures c.if-ne.true,
)

-- the digests agree, and all else is as it should be
pub returns-in-Some-clause-page : goal.returns-in-Some-clause-page
returns-in-Some-clause-page c =
    let same = equal c.kept_in-kept.result c.found_of-found.result c.ne.result c.ne.ensures c.if-ne.false in
    let agree = sym c.kept_in-kept.ensures ∙ same ∙ c.found_of-found.ensures in
    let used = c.in-Some.ensures.found in
    (used.0, used.1, page_is c.args.bytes.now c.args.number (part_of c.in-Some.used c.args.bytes.now) agree used.2)

-- no other number of bytes is used
pub returns-in-Some-clause-only : goal.returns-in-Some-clause-only
returns-in-Some-clause-only c = λ part fills e.
    let same = c.in-Some.ensures.only part (sha256 (body_of c.args.number part)) fills (as_page c.args.bytes.now c.args.number part e) in
    cc

-- a page would have been accepted
accepted : (c : goal.In-None) (part : List ℕ) → Fills part → c.args.bytes.now ≡ page_of c.args.number part → ⊥
accepted c part fills e =
    let same = c.in-None.ensures.only part (sha256 (body_of c.args.number part)) fills (as_page c.args.bytes.now c.args.number part e) in
    absurd cc

pub returns-in-None-clause-only : goal.returns-in-None-clause-only
returns-in-None-clause-only c = λ part fills e. absurd (accepted c part fills e)

-- the digests agree, and no part has this page
pub returns-in-None-clause-fault : goal.returns-in-None-clause-fault
returns-in-None-clause-fault c =
    let same = equal c.kept_in-kept.result c.found_of-found.result c.ne.result c.ne.ensures c.if-ne.false in
    (sym c.kept_in-kept.ensures ∙ same ∙ c.found_of-found.ensures, accepted c)
