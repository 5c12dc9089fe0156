use Rattle.std.proofs.Common.{◌≡◌, length, arith, sym, ◌∙◌}
use Rattle.realm_pages.proofs.Counting.{below}
use Rattle.realm_pages.proofs.PageJudgements.{altered, strange, misfit, good}
use Rattle.realm_pages.proofs.pages.part_in.Goals as goal

-- some of the payload stands behind the pages before
pub overflow_add-number : goal.overflow_add-number
overflow_add-number c = omega (arith, below c.args.size c.args.before c.requires.more)

pub overflow_mul-before : goal.overflow_mul-before
overflow_mul-before c = omega (arith, below c.args.size c.args.before c.requires.more)

pub overflow_sub-size : goal.overflow_sub-size
overflow_sub-size c = omega (arith, below c.args.size c.args.before c.requires.more)

-- each answer is what the page's own judgement says
pub returns-in-Err-Digest : goal.returns-in-Err-Digest
returns-in-Err-Digest c =
    let array = c.in-Some.ensures.cases in
    let (kept, found, differ) = rw c.in-Err-Digest.field-0-is at c.in-Err-Digest.ensures.fault in
    altered c.args.file c.args.size c.args.before c.requires.more array.long array.same kept found differ

pub returns-in-Err-BadPage : goal.returns-in-Err-BadPage
returns-in-Err-BadPage c =
    let array = c.in-Some.ensures.cases in
    let (agree, none) = rw c.in-Err-BadPage.field-0-is at c.in-Err-BadPage.ensures.fault in
    strange c.args.file c.args.size c.args.before c.requires.more array.long array.same agree none

pub returns-then-used-min : goal.returns-then-used-min
returns-then-used-min c =
    let array = c.in-Some.ensures.cases in
    let (size, fills, is) = c.in-Ok.ensures.page in
    misfit c.args.file c.args.size c.args.before c.requires.more array.long array.same size fills is
    (λ part fills_too is_too.
    let same = c.in-Ok.ensures.only part fills_too is_too in
    let used : c.in-Ok.used ≡ length part = cc in
    used)
    (λ fits. c.if-used-min.true (fits ∙ sym c.min.ensures))

pub returns-else-used-min : goal.returns-else-used-min
returns-else-used-min c =
    let array = c.in-Some.ensures.cases in
    let (size, fills, is) = c.in-Ok.ensures.page in
    good c.args.file c.args.size c.args.before c.requires.more array.long array.same size fills is
    (c.if-used-min.false ∙ c.min.ensures)
