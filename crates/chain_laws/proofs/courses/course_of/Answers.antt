use Rattle.std.proofs.Common.{true≢false, sym, subst, ◌∙◌}
use Rattle.grid_base.specs.Segment.{GridSegment}
use Rattle.hook_chain.specs.Chains.{AllLinks}
use Rattle.hook_chain.specs.ValidChain.{IsMonotone}
use Rattle.chain_laws.proofs.Ends.{one_segment}
use Rattle.chain_laws.proofs.courses.course_of.Goals as goal

-- there is no other segment from end to end
pub returns-else-is_monotone : goal.returns-else-is_monotone
returns-else-is_monotone c = λ o course.
    let points = c.args.points.now in
    let same = one_segment points o c.in_ok-original.original course.ends c.in_ok-original.ensures in
    let monotone = subst (λ (s : GridSegment). AllLinks (IsMonotone s.a s.b) points) same course.monotone in
    true≢false (sym (c.is_monotone.ensures.1 monotone) ∙ c.if-is_monotone.false)
