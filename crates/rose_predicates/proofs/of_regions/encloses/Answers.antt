use Rattle.rose_predicates.proofs.Truths.{never, not_held, with_held}
use Rattle.rose_predicates.proofs.of_regions.encloses.Goals as goal

-- what reaches out of the box isn't shut in
pub returns-then-reaches_out : goal.returns-then-reaches_out
returns-then-reaches_out c =
    never (λ both. c.reaches_out.ensures.shut_in c.if-reaches_out.true c.requires.noded c.requires.first c.requires.second both.1)

-- the areas meet
pub returns-then-meeting : goal.returns-then-meeting
returns-then-meeting c = never (λ both. both.0 (c.in_ok-meeting.ensures.0 c.if-meeting.true))

-- they don't
pub returns : goal.returns
returns c = with_held (not_held c.in_ok-meeting.ensures c.if-meeting.false) c.in_ok-is_shut_in.ensures
