use Rattle.rose_predicates.proofs.Truths.{never, of_some}
use Rattle.rose_predicates.proofs.members.share_segment.Goals as goal

-- boxes apart hold no common segment
pub returns-then-lie_apart : goal.returns-then-lie_apart
returns-then-lie_apart c =
    never (λ any. (let s = of_some _ c.args.a.now any in c.lie_apart.ensures.segments c.if-lie_apart.true s.0 s.1 s.2))
