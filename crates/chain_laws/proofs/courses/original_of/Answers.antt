use Rattle.std.proofs.Common.{true≢false, refl, sym, subst, ◌∙◌}
use Rattle.grid_base.specs.Segment.{GridSegment}
use Rattle.hook_chain.specs.ValidChain.{IsCloseChain}
use Rattle.chain_laws.specs.Courses.{IsFromEndToEnd}
use Rattle.chain_laws.proofs.Ends.{one_segment}
use Rattle.chain_laws.proofs.courses.original_of.Goals as goal

-- the chain of another original has other ends
pub returns-else-is_close_chain-clause-none : goal.returns-else-is_close_chain-clause-none
returns-else-is_close_chain-clause-none c =
    let points = c.args.points.now in (
      λ h some.
          let o = some.0 in
          let valid = some.1 in
          let ends : IsFromEndToEnd points o = record { ordered = valid.ends; leads = valid.leads } in
          let same = one_segment points o c.in_ok-original.original ends c.in_ok-original.ensures.ends in
          let chain = subst (λ (s : GridSegment). IsCloseChain s points) same valid.close in
          true≢false (sym (c.is_close_chain.ensures.1 chain) ∙ c.if-is_close_chain.false),
      λ none. refl,
    )
