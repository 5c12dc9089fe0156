use Rattle.std.proofs.Common.{◌≡◌, ◌+◌, ◌-◌, ℕ, length, take, Some, sym, ap, ◌∙◌, arith}
use Rattle.std.proofs.lemmas.List.{length-take, length-drop}
use Rattle.page_codec.specs.Pages.{body_of, part_of}
use Rattle.page_codec.proofs.PageLemmas.{part_is, front_is, equal, apart}
use Rattle.page_codec.proofs.page.used_of.Goals as goal

-- no part is empty
pub returns-then-used-eq0-clause-only : goal.returns-then-used-eq0-clause-only
returns-then-used-eq0-clause-only c = λ part rest fills e.
    let used = c.count_in-used.ensures c.args.number part rest fills e in
    absurd (omega (arith, used, fills.some, c.if-used-eq0.true))

-- no part is longer
pub returns-then-used-gt4054-clause-only : goal.returns-then-used-gt4054-clause-only
returns-then-used-gt4054-clause-only c = λ part rest fills e.
    let used = c.count_in-used.ensures c.args.number part rest fills e in
    absurd (omega (arith, used, fills.not_more, c.if-used-gt4054.true))

-- the page that was written again would have been the same
pub returns-then-ne-clause-only : goal.returns-then-ne-clause-only
returns-then-ne-clause-only c = λ part rest fills e.
    let used = c.count_in-used.ensures c.args.number part rest fills e in
    let taken : 10 + c.count_in-used.result - 10 ≡ length part = omega (arith, used) in
    let again : c.body_with-written.result ≡ body_of c.args.number part = c.body_with-written.ensures
    ∙ ap (λ (n : ℕ). body_of c.args.number (part_of n c.args.bytes.now)) taken
    ∙ ap (body_of c.args.number) (part_is c.args.bytes.now c.args.number part rest fills e) in
    absurd (apart (take 4064 c.args.bytes.now) c.body_with-written.result c.ne.result c.ne.ensures c.if-ne.true
    (front_is c.args.bytes.now c.args.number part rest fills e ∙ sym again))

-- what is used is as long as the part
pub returns-clause-only : goal.returns-clause-only
returns-clause-only c = λ part rest fills e.
    ap Some (c.count_in-used.ensures c.args.number part rest fills e)

-- the page that was written again is the same
pub returns-clause-found : goal.returns-clause-found
returns-clause-found c =
    let long : length (part_of c.count_in-used.result c.args.bytes.now) ≡ c.count_in-used.result =
    simp (length-take, length-drop) (omega arith) in
    let taken : 10 + c.count_in-used.result - 10 ≡ c.count_in-used.result = omega arith in
    let same = equal (take 4064 c.args.bytes.now) c.body_with-written.result c.ne.result c.ne.ensures c.if-ne.false in (
      long,
      record { some = omega (arith, long, c.if-used-eq0.false); not_more = omega (arith, long, c.if-used-gt4054.false) },
      same ∙ c.body_with-written.ensures ∙ ap (λ (n : ℕ). body_of c.args.number (part_of n c.args.bytes.now)) taken,
    )
