use Rattle.rose_predicates.proofs.of_regions.of_regions.Goals as goal

-- as it was answered
pub returns-in_ok-is_inside-in-Inside-clause-holds : goal.returns-in_ok-is_inside-in-Inside-clause-holds
returns-in_ok-is_inside-in-Inside-clause-holds c = rw c.in-Inside.is c.in_ok-is_inside-in-Inside.ensures

pub returns-in_ok-are_meeting-in-Meets-clause-holds : goal.returns-in_ok-are_meeting-in-Meets-clause-holds
returns-in_ok-are_meeting-in-Meets-clause-holds c = rw c.in-Meets.is c.in_ok-are_meeting-in-Meets.ensures
