use Rattle.std.proofs.Common.{true≢false, sym, ◌∙◌}
use Rattle.chain_laws.proofs.Ends.{from_end_to_end, not_from_end_to_end}
use Rattle.chain_laws.proofs.courses.from_end_to_end.Goals as goal

-- the first point is before the last, so the segment leads from one to the other
pub returns-then-comes_before : goal.returns-then-comes_before
returns-then-comes_before c =
    let first = c.in_ok-first.ensures.item in
    let last = c.in_ok-last.ensures.item in
    let before = c.comes_before.ensures.0 c.if-comes_before.true in
    from_end_to_end c.args.points.now _ _ _ first.3.0 first.1 last.1 before c.new.ensures.none.0 c.new.ensures.ends

-- it isn't, so no segment does
pub returns-else-comes_before : goal.returns-else-comes_before
returns-else-comes_before c =
    let first = c.in_ok-first.ensures.item in
    let last = c.in_ok-last.ensures.item in
    not_from_end_to_end c.args.points.now _ _ first.3.0 first.1 last.1
    (λ before. true≢false (sym (c.comes_before.ensures.1 before) ∙ c.if-comes_before.false))
