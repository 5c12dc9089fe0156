use Rattle.std.proofs.Common.{◌≡◌, ◌+◌, ◌-◌, true≢false, refl, sym, ◌∙◌, arith}
use Rattle.hook_chain.specs.ValidChain.{IsMonotone}
use Rattle.chain_laws.proofs.LinkPlaces.{read_link, links_by_place}
use Rattle.chain_laws.proofs.courses.is_monotone.Goals as goal

-- one point may not follow the other
pub returns-then-not-may_follow : goal.returns-then-not-may_follow
returns-then-not-may_follow c =
    let o = c.args.o.now in
    let i = c.loop-i.i in
    let next : i ≡ i - 1 + 1 = omega arith in
    let follows = read_link (IsMonotone o.a o.b) c.args.points.now (i - 1) i _ _ next c.loop-i-test.true in (
      λ h. absurd (true≢false (sym h)),
      λ all.
          let link = follows c.index-points-i.is c.index-points-i-in-loop-i.is all in
          absurd (true≢false (sym (c.may_follow.ensures.1 link) ∙ c.if-not-may_follow.true)),
    )

-- each may
pub returns : goal.returns
returns c = (
  λ h. links_by_place (IsMonotone c.args.o.now.a c.args.o.now.b) c.args.points.now
      (λ k d within. c.loop-i.invariant k d (omega arith)),
  λ all. refl,
)
