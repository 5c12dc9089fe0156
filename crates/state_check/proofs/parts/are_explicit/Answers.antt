use Rattle.std.proofs.Common.{take_all, Contains, refl, sym, subst, true≢false, ◌∙◌}
use Rattle.std.proofs.lemmas.List.Elements.{All-nil, All-more}
use Rattle.state_check.proofs.parts.are_explicit.Goals as goal

pub loop-p-init : goal.loop-p-init
loop-p-init c = All-nil (Contains c.args.drawing.now.drawing.points)

-- one more is
pub loop-p-preserved : goal.loop-p-preserved
loop-p-preserved c =
    let There = Contains c.args.drawing.now.drawing.points in
    All-more There c.args.points.now c.loop-p.p-index c.p-item.result c.loop-p-test.true c.loop-p.invariant
    (subst There c.p-item.is (c.is_explicit.ensures.explicit.0 c.if-not-is_explicit.false))

-- one isn't
pub returns-then-not-is_explicit : goal.returns-then-not-is_explicit
returns-then-not-is_explicit c = (
  λ yes. absurd cc,
  λ all.
      let There = Contains c.args.drawing.now.drawing.points in
      let there = subst There (sym c.p-item.is) (all c.loop-p.p-index c.p-item.result c.loop-p-test.true) in
      absurd (true≢false (sym (c.is_explicit.ensures.explicit.1 there) ∙ c.if-not-is_explicit.true)),
)

-- at the end all are
pub returns : goal.returns
returns c = let past = c.loop-p-test.false in let all = rw take_all at c.loop-p.invariant in (λ yes. all, λ h. refl)
