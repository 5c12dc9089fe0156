use Rattle.rose_predicates.proofs.Truths.{first_held, never, not_held, not_told, some_told}
use Rattle.rose_predicates.proofs.of_regions.are_edge_disjoint.Goals as goal

-- a segment is common
pub returns-then-share_segment : goal.returns-then-share_segment
returns-then-share_segment c =
    never (λ both. both.1 ((some_told _ c.args.a.now).0 (c.share_segment.ensures.0 c.if-share_segment.true)))

-- none is
pub returns : goal.returns
returns c =
    first_held (λ shared. not_held c.share_segment.ensures c.if-share_segment.false ((some_told _ c.args.a.now).1 shared))
    (not_told c.in_ok-meeting.ensures)
