use Rattle.std.proofs.Common.{true≢false, sym, ◌∙◌}
use Rattle.realm_drawing.proofs.Places.{nowhere}
use Rattle.realm_drawing.proofs.passages.place_of_point.Goals as goal

-- another point stands at the one place where it can be
pub returns-else-is_at : goal.returns-else-is_at
returns-else-is_at c =
    nowhere c.args.chain.now c.args.p.now c.in_ok-place.place c.in_ok-place.ensures
    (λ here. true≢false (sym (c.is_at.ensures.1 here) ∙ c.if-is_at.false))
