use Rattle.rose_predicates.proofs.Truths.{first_held, never, not_held, not_told, some_told}
use Rattle.rose_predicates.proofs.of_regions.are_adjacent.Goals as goal

-- no segment is common
pub returns-then-not-share_segment : goal.returns-then-not-share_segment
returns-then-not-share_segment c =
    never (λ both. not_held c.share_segment.ensures c.if-not-share_segment.true ((some_told _ c.args.a.now).1 both.1))

-- one is
pub returns : goal.returns
returns c =
    first_held ((some_told _ c.args.a.now).0 (c.share_segment.ensures.0 c.if-not-share_segment.false)) (not_told c.in_ok-meeting.ensures)
